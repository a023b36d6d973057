-- A timeline that keeps nothing, and counts its moves.
use Rattle.std.proofs.Common.{◌≡◌, refl, sym, ap, ◌∙◌, subst, ℕ, zero, suc, ◌+◌, [], Some, arith}
use Rattle.qil_tree.specs.declared.tree.Program.{Program}
use Rattle.qil_semantics.specs.State.{State}
use Rattle.qil_semantics.specs.Step.{step_of}
use Rattle.qil_semantics.specs.Targets.{after}
use Rattle.qil_semantics.specs.Timeline.{Timeline, forward, moved}

abbrev pub bare : State → ℕ → Timeline
bare s n = record { now = s; past = []; forgotten = n; keeps = Some 0 }

pub bare_moved : {A : Type 0} (p : Program A) (s : State) (n k : ℕ) → moved p k (bare s n) ≡ bare (after p s k) (n + k)
unfolding moved
bare_moved p s n zero = let none : n ≡ n + 0 = omega arith in ap (bare s) none
bare_moved p s n (suc k) =
    let one : (n + k) + 1 ≡ n + suc k = omega arith in
    ap (λ (t : Timeline). forward p t) (bare_moved p s n k) ∙ ap (bare (after p s (suc k))) one
