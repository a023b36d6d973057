-- The steps so far, each of a run that went on, as it does still, and behind none of them may a stop hold.
use Rattle.std.proofs.Common.{◌≡◌, ℕ, ◌<◌, ◌≤◌, false, None}
use Rattle.qil_semantics.specs.State.{is_final}
use Rattle.qil_semantics.specs.Stops.{first_break}
use Rattle.qil_semantics.specs.Targets.{after}
use Rattle.qil_state.specs.State.{state_of}
use Rattle.qil_machine.specs.Places.{IsRunning}
use Rattle.qil_stops.specs.Named.{named_stops}
use Rattle.qil_stops.specs.Readings.{AllTell}
use Rattle.qil_flatmachine.proofs.machine.FlatMachine.run_quietly.Given as goal

abbrev pub invariant-loop-made : goal.invariant-loop-made
invariant-loop-made g l = record {
  base : l.self.base ≡ l.fn.self.base;
  program : l.self.whole.program ≡ l.fn.self.whole.program;
  goes : IsRunning l.self.whole;
  steps : state_of l.self.whole ≡ after l.fn.self.whole.program (state_of l.fn.self.whole) l.made;
  running : (j : ℕ) → j < l.made → is_final (after l.fn.self.whole.program (state_of l.fn.self.whole) j).status ≡ false;
  quiet : AllTell l.fn.self.whole.program (state_of l.fn.self.whole) l.stops l.before
      → (j : ℕ) → j ≤ l.made → AllTell l.fn.self.whole.program (after l.fn.self.whole.program (state_of l.fn.self.whole) j) l.stops l.before;
  unbroken : (j : ℕ) → 0 < j → j ≤ l.made → first_break (after l.fn.self.whole.program (state_of l.fn.self.whole) j) (named_stops l.fn.self.whole.program l.stops) ≡ None;
}
