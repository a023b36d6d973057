-- No stop so far may hold.
use Rattle.std.proofs.Common.{◌≡◌, ℕ, ◌<◌, None, drop, get_or}
use Rattle.qil_semantics.specs.Stops.{is_held, first_break}
use Rattle.qil_state.specs.State.{state_of}
use Rattle.qil_stops.specs.declared.stop.NumberedStop.{NumberedStop}
use Rattle.qil_stops.specs.Named.{named_stops}
use Rattle.qil_stops.specs.Readings.{Tells}
use Rattle.qil_stops.proofs.Naming.{first_by}
use Rattle.qil_stops.proofs.looking.may_stop.Given as goal

abbrev pub invariant-loop-index : goal.invariant-loop-index
invariant-loop-index g l = record {
  quiet : (j : ℕ) (d : NumberedStop) → j < l.index → Tells (g.M.HasCopies.present l.machine).program (state_of (g.M.HasCopies.present l.machine)) (get_or l.stops j d).kind (get_or l.before j None);
  unbroken : first_break (state_of (g.M.HasCopies.present l.machine)) (named_stops (g.M.HasCopies.present l.machine).program l.stops) ≡ first_by (g.M.HasCopies.present l.machine).program (is_held (state_of (g.M.HasCopies.present l.machine))) (drop l.index l.stops);
}
