-- The bytes so far were put.
use Rattle.std.proofs.Common.{◌≡◌, drop}
use Rattle.std.specs.List.{flat_map}
use Rattle.qil_render.specs.Texts.{quoted_byte}
use Rattle.qil_render.proofs.Reported.{Reported}
use Rattle.qil_render.proofs.bytes.put_all_quoted.Given as goal

abbrev pub invariant-loop-byte : goal.invariant-loop-byte
invariant-loop-byte g l = record {
  text : Reported (flat_map quoted_byte l.bytes) (flat_map quoted_byte (drop l.byte-index l.bytes)) (g.P.Put.written l.fn.out) (g.P.Put.written l.out);
  counted : g.P.Put.stops l.out ≡ g.P.Put.stops l.fn.out;
  device : g.P.Put.device l.out ≡ g.P.Put.device l.fn.out;
}
