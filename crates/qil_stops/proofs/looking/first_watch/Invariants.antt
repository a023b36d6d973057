-- No watch so far reads otherwise.
use Rattle.std.proofs.Common.{◌≡◌, ℕ, ◌<◌, None, drop, get_or}
use Rattle.qil_semantics.specs.State.{State}
use Rattle.qil_semantics.specs.Stops.{differs, first_watch}
use Rattle.qil_state.specs.State.{state_of}
use Rattle.qil_stops.specs.declared.stop.NumberedStop.{NumberedStop}
use Rattle.qil_stops.specs.Named.{named_stops}
use Rattle.qil_stops.specs.Readings.{Tells, AllTell}
use Rattle.qil_stops.proofs.Naming.{first_by}
use Rattle.qil_stops.proofs.looking.first_watch.Given as goal

abbrev pub invariant-loop-index : goal.invariant-loop-index
invariant-loop-index g l = record {
  first : (old : State) → AllTell (g.M.HasCopies.present l.machine).program old l.stops l.before
      → first_watch old (state_of (g.M.HasCopies.present l.machine)) (named_stops (g.M.HasCopies.present l.machine).program l.stops) ≡ first_by (g.M.HasCopies.present l.machine).program (differs old (state_of (g.M.HasCopies.present l.machine))) (drop l.index l.stops);
  same : (j : ℕ) (d : NumberedStop) → j < l.index → Tells (g.M.HasCopies.present l.machine).program (state_of (g.M.HasCopies.present l.machine)) (get_or l.stops j d).kind (get_or l.before j None);
}
