-- The lines so far were put.
use Rattle.std.proofs.Common.{◌≡◌, take}
use Rattle.std.specs.List.{flat_map}
use Rattle.std.specs.Io.KnownBytes.{Appends}
use Rattle.qil_replies.specs.Texts.{span_line}
use Rattle.qil_replies.proofs.spans.put_list.Given as goal

abbrev pub invariant-loop-one : goal.invariant-loop-one
invariant-loop-one g l = record {
  text : Appends (g.P.Put.written l.fn.out) (g.P.Put.written l.out) (flat_map (span_line l.fn.code) (take l.one-index l.list));
  counted : g.P.Put.stops l.out ≡ g.P.Put.stops l.fn.out;
  device : g.P.Put.device l.out ≡ g.P.Put.device l.fn.out;
}
