-- The machine makes the moves, which are counted.
use Rattle.std.proofs.Common.{◌≡◌, ◌∙◌, sym, ap, subst, ℕ, ◌+◌, ◌<◌, false}
use Rattle.qil_semantics.specs.State.{State}
use Rattle.qil_semantics.specs.Timeline.{Timeline, at_end, moved}
use Rattle.qil_state.specs.State.{state_of}
use Rattle.qil_comparison.specs.Running.{Running}
use Rattle.qil_comparison.proofs.Bare.{bare, bare_moved}
use Rattle.qil_comparison.proofs.flat_run.FlatRunForwardCode.run.Goals as goal

pub returns-clause-moved : goal.returns-clause-moved
returns-clause-moved g c =
    let old = c.self.inside in
    let w = old.machine.whole in
    let made = c.run-made.result in
    let new = state_of c.run-made.new.self.whole in
    subst (λ (v : Running g.row.A.Denot). bare new (old.moves + made) ≡ moved v.whole.program made (bare (state_of v.whole) v.moves)) c.self.view_is
    (ap (λ (s : State). bare s (old.moves + made)) c.run-made.ensures.steps ∙ sym (bare_moved w.program (state_of w) old.moves made))

pub returns-clause-running : goal.returns-clause-running
returns-clause-running g c =
    let old = c.self.inside in
    let w = old.machine.whole in
    subst (λ (v : Running g.row.A.Denot). (j : ℕ) → j < c.run-made.result → at_end (moved v.whole.program j (bare (state_of v.whole) v.moves)) ≡ false) c.self.view_is
    (λ j lt. ap (λ (t : Timeline). at_end t) (bare_moved w.program (state_of w) old.moves j) ∙ c.run-made.ensures.running j lt)
