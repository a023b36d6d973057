-- The values so far were put.
use Rattle.std.proofs.Common.{◌≡◌, drop}
use Rattle.std.specs.List.{flat_map}
use Rattle.qil_state.specs.State.{state_of}
use Rattle.qil_render.proofs.Reported.{Reported}
use Rattle.qil_compare.specs.Events.{call_params}
use Rattle.qil_comparison.specs.Told.{further_value, values_text}
use Rattle.qil_comparison.proofs.event_text.put_params.Given as goal

abbrev pub invariant-loop-i : goal.invariant-loop-i
invariant-loop-i g l = record {
  text : Reported (values_text (call_params (g.M.Readers.whole l.fn.machine).program (state_of (g.M.Readers.whole l.fn.machine)).frames)) (flat_map further_value (drop l.i (call_params (g.M.Readers.whole l.fn.machine).program (state_of (g.M.Readers.whole l.fn.machine)).frames)))
      (g.P.Put.written l.fn.out) (g.P.Put.written l.out);
  counted : g.P.Put.stops l.out ≡ g.P.Put.stops l.fn.out;
  device : g.P.Put.device l.out ≡ g.P.Put.device l.fn.out;
}
