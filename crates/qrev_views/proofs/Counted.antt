-- Frames by their numbers, counted from the innermost.
use Rattle.std.proofs.Common.{◌≡◌, sym, ◌∙◌, ℕ, ◌-◌, ◌<◌, List, length, Option, Some, None, inl, inr, arith}
use Rattle.std.specs.Prelude.{◌⊎◌, slice_get, MatchOption}
use Rattle.std.proofs.lemmas.Option.{slice_get_cases}

pub frame_found : {X : Type 0} (r : Option X) (fs : List X) (number : ℕ) → r ≡ slice_get fs (number - 1) → (number ≡ 0 → ⊥) → MatchOption r ((number ≡ 0) ⊎ (length fs < number)) (λ x. slice_get fs (number - 1) ≡ Some x)
frame_found (Some x) fs number is some = sym is
frame_found None fs number is some = elim (slice_get_cases fs (number - 1)).1 [
  | inl there ↦ (let none = is ∙ there.2 in absurd cc)
  | inr past ↦ (let le = past.0 in inr (omega (arith, le, some)))
]
