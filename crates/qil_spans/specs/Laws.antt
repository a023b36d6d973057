-- What where a frame begins says of the states along moves.
use Rattle.std.specs.Prelude.{◌≡◌, ℕ, suc, ◌+◌, ◌<◌, ◌≤◌, Option, Some, None}
use Rattle.qil_tree.specs.declared.tree.Program.{Program}
use Rattle.qil_semantics.specs.Timeline.{Timeline, position}
use Rattle.qil_spans.specs.Spans.{depth_by}

-- A move led to the first state with a frame that has n below it: the state before has no more than these, and all from it on have
-- more, up to that by k moves.
pub record Began {A : Type 0} (p : Program A) (t : Timeline) (n k begin : ℕ) : Type 0 where
  pub moves : ℕ
  pub at : begin ≡ position t + suc moves
  pub few : moves ≤ k
  pub before : depth_by p t moves ≤ n
  pub since : (j : ℕ) → moves < j → j ≤ k → n < depth_by p t j

-- it began so, or all states have more
abbrev pub HasBegun : {A : Type 0} → Program A → Timeline → ℕ → ℕ → Option ℕ → Type 0
HasBegun p t n k None = (j : ℕ) → j ≤ k → n < depth_by p t j
HasBegun p t n k (Some begin) = Began p t n k begin
