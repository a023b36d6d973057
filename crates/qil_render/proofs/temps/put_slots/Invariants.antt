-- The values so far were put.
use Rattle.std.proofs.Common.{◌≡◌, drop}
use Rattle.qil_code.specs.Numbered.{names_of}
use Rattle.qil_render.specs.Slots.{slot_lines}
use Rattle.qil_render.proofs.Reported.{Reported}
use Rattle.qil_render.proofs.temps.put_slots.Given as goal

abbrev pub invariant-loop-index : goal.invariant-loop-index
invariant-loop-index g l = record {
  text : Reported (slot_lines (names_of l.fn.code l.fn.frame.func) l.fn.frame.slots)
      (slot_lines (drop l.index (names_of l.fn.code l.fn.frame.func)) (drop l.index l.fn.frame.slots)) (g.P.Put.written l.fn.out) (g.P.Put.written l.out);
  counted : g.P.Put.stops l.out ≡ g.P.Put.stops l.fn.out;
  device : g.P.Put.device l.out ≡ g.P.Put.device l.fn.out;
}
