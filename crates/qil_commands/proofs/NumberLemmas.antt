-- The value of digits that are read one after the other, where the value is cut at a limit.
use Rattle.std.proofs.Common.{◌≡◌, ℕ, ◌+◌, ◌*◌, ◌-◌, ◌<◌, List, [], ◌∷◌, length, fold, min, drop, get_or, refl, sym, ap, ◌∙◌, arith, drop-cons, add-one}

-- the value of digits that come after a value
abbrev pub value_after : ℕ → List ℕ → ℕ
value_after start digits = fold (λ v d. v * 10 + (d - 48)) start digits

-- cutting at a limit before the digits or after them is the same
pub min-value_after : (limit : ℕ) (v : ℕ) (digits : List ℕ) → min (value_after (min v limit) digits) limit ≡ min (value_after v digits) limit
min-value_after limit v [] = omega arith
min-value_after limit v (d ∷ digits) =
    let at : min (min v limit * 10 + (d - 48)) limit ≡ min (v * 10 + (d - 48)) limit = omega arith in
    sym (min-value_after limit (min v limit * 10 + (d - 48)) digits)
    ∙ (ap (λ (n : ℕ). min (value_after n digits) limit) at ∙ min-value_after limit (v * 10 + (d - 48)) digits)

-- one digit more
pub value_after-step : (limit v i : ℕ) (digits : List ℕ) → i < length digits →
    min (value_after (min (v * 10 + (get_or digits i 0 - 48)) limit) (drop (i + 1) digits)) limit ≡ min (value_after v (drop i digits)) limit
value_after-step limit v i digits h =
    min-value_after limit (v * 10 + (get_or digits i 0 - 48)) (drop (i + 1) digits)
    ∙ rw (add-one i) (rw (drop-cons digits i 0) refl)
