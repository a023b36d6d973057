-- The lines so far were put.
use Rattle.std.proofs.Common.{◌≡◌, take}
use Rattle.std.specs.List.{flat_map}
use Rattle.std.specs.Io.KnownBytes.{Appends}
use Rattle.qil_replies.specs.Texts.{listed_line}
use Rattle.qil_replies.proofs.stops.put_listed.Given as goal

abbrev pub invariant-loop-stop : goal.invariant-loop-stop
invariant-loop-stop g l = record {
  text : Appends (g.P.Put.written l.fn.out) (g.P.Put.written l.out) (flat_map (listed_line l.fn.code) (take l.stop-index l.stops));
  counted : g.P.Put.stops l.out ≡ g.P.Put.stops l.fn.out;
  device : g.P.Put.device l.out ≡ g.P.Put.device l.fn.out;
}
