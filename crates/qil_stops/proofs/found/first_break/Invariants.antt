-- No breakpoint so far holds.
use Rattle.std.proofs.Common.{◌≡◌, drop}
use Rattle.qil_semantics.specs.Stops.{is_held, first_break}
use Rattle.qil_history.specs.qil_state.State.{state_of}
use Rattle.qil_stops.specs.Named.{named_stops}
use Rattle.qil_stops.proofs.Naming.{first_by}
use Rattle.qil_stops.proofs.found.first_break.Given as goal

abbrev pub invariant-loop-stop : goal.invariant-loop-stop
invariant-loop-stop g l = first_break (state_of l.machine) (named_stops l.machine.program l.stops) ≡ first_by l.machine.program (is_held (state_of l.machine)) (drop l.stop-index l.stops)
