-- The steps so far, as many as rounds unless the run is over; and what is noted of them.
use Rattle.std.proofs.Common.{◌≡◌, ◌⊎◌, ◌≤◌, true}
use Rattle.qil_semantics.specs.State.{is_final}
use Rattle.qil_semantics.specs.Targets.{after}
use Rattle.qil_state.specs.State.{state_of}
use Rattle.qil_shadow.specs.Steps.{shadow_of}
use Rattle.qil_suspicions.specs.Run.{IsAtStart}
use Rattle.qil_suspicions.proofs.Beside.{RunsBeside}
use Rattle.qil_suspicions.proofs.pass.Pass.run.Given as goal

abbrev pub invariant-loop-round : goal.invariant-loop-round
invariant-loop-round g l = record {
  program : l.self.whole.program ≡ l.fn.self.whole.program;
  few : l.self.moves ≤ l.round;
  steps : state_of l.self.whole ≡ after l.fn.self.whole.program (state_of l.fn.self.whole) l.self.moves;
  so_far : (l.self.moves ≡ l.round) ⊎ (is_final (state_of l.self.whole).status ≡ true);
  noted : IsAtStart l.fn.self → RunsBeside l.fn.self.whole.program (state_of l.fn.self.whole) (shadow_of l.fn.self.whole.program (state_of l.fn.self.whole) l.fn.self.shadow) l.self;
}
