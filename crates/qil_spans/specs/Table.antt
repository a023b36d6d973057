-- What code keeps of frames along moves: those that ended, and where those began that last.
use Rattle.std.specs.Prelude.{◌≡◌, ℕ, suc, ◌+◌, ◌-◌, ◌<◌, nat_lt, if◌then◌else◌, List, [], ◌∷◌, ◌++◌, length, flat_map, take, Option, Some, None, slice_get}
use Rattle.std.specs.List.{filter, range_with_len}
use Rattle.qil_tree.specs.declared.tree.Program.{Program}
use Rattle.qil_layout.specs.declared.callee.FuncId.{FuncId}
use Rattle.qil_semantics.specs.State.{State}
use Rattle.qil_semantics.specs.Timeline.{Timeline, moved}
use Rattle.qil_spans.specs.declared.span.Span.{Span}
use Rattle.qil_spans.specs.Spans.{begin_of, depth_by, ended_by, func_over, is_told, lasting, span}

-- the frames that ended and are told; and where those began that last, the outermost first
pub record Kept : Type 0 where
  pub ended : List Span
  pub begins : List ℕ

abbrev pub nothing : Kept
nothing = record { ended = []; begins = [] }

-- ---- one move more

abbrev pub last_of : List ℕ → Option ℕ
last_of begins = slice_get begins (length begins - 1)

abbrev pub without_last : List ℕ → List ℕ
without_last begins = take (length begins - 1) begins

abbrev pub with_begin : ℕ → Kept → Kept
with_begin at kept = record { ended = kept.ended; begins = kept.begins ++ at ∷ [] }

abbrev pub with_end : ℕ → ℕ → FuncId → ℕ → Kept → Kept
with_end d at func n kept = record {
  ended = kept.ended ++ filter (is_told d) (span (last_of kept.begins) (Some at) func n ∷ []);
  begins = without_last kept.begins;
}

-- a move to a position, from a state with so many frames and an innermost function to one with so many
abbrev pub after_move : ℕ → ℕ → ℕ → FuncId → ℕ → Kept → Kept
after_move d before after func at kept =
    if nat_lt before after then with_begin at kept else (if nat_lt after before then with_end d at func after kept else kept)

-- ---- what it is of a run

-- This is kept after k moves: as many frames as didn't begin by these are older, and each other one began where it says.
pub record IsKept {A : Type 0} (p : Program A) (t : Timeline) (d k : ℕ) (kept : Kept) : Type 0 where
  pub ended : kept.ended ≡ ended_by p t d k
  pub older : ℕ
  pub all : older + length kept.begins ≡ depth_by p t k
  pub before : (n : ℕ) → n < older → begin_of p t n k ≡ None
  pub begun : (i : ℕ) → i < length kept.begins → begin_of p t (older + i) k ≡ slice_get kept.begins i

-- a function is that of the innermost frame of a state, if there is one
abbrev pub IsInnermost : {A : Type 0} → Program A → State → FuncId → Type 0
IsInnermost p s func = (n : ℕ) → length s.frames ≡ suc n → func ≡ func_over p s n

-- ---- the answer

-- the first i frames that last, of a state with as many older ones
abbrev pub lasting_in : {A : Type 0} → Program A → State → ℕ → List ℕ → ℕ → List Span
lasting_in p s older begins i = flat_map (λ j. lasting (slice_get begins j) (func_over p s (older + j)) (older + j)) (range_with_len 0 i)

abbrev pub told_of : {A : Type 0} → Program A → State → Kept → List Span
told_of p s kept = kept.ended ++ lasting_in p s (length s.frames - length kept.begins) kept.begins (length kept.begins)
