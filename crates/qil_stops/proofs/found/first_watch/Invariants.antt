-- No watch so far reads otherwise.
use Rattle.std.proofs.Common.{◌≡◌, drop}
use Rattle.qil_semantics.specs.State.{State}
use Rattle.qil_semantics.specs.Stops.{differs, first_watch}
use Rattle.qil_history.specs.qil_state.State.{state_of}
use Rattle.qil_stops.specs.Named.{named_stops}
use Rattle.qil_stops.specs.Readings.{AllTell}
use Rattle.qil_stops.proofs.Naming.{first_by}
use Rattle.qil_stops.proofs.found.first_watch.Given as goal

abbrev pub invariant-loop-index : goal.invariant-loop-index
invariant-loop-index g l = (old : State) → AllTell l.machine.program old l.stops l.before
    → first_watch old (state_of l.machine) (named_stops l.machine.program l.stops) ≡ first_by l.machine.program (differs old (state_of l.machine)) (drop l.index l.stops)
