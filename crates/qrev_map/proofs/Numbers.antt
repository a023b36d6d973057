-- The number that digits say, against what was read of them.
use Rattle.std.proofs.Common.{◌≡◌, ℕ, ◌<◌, ◌≤◌, ◌^◌, List, [], ◌∷◌, true, false, drop, cond, refl, sym, ap, ◌∙◌, subst, arith, Ok, Err, Result}
use Rattle.std.specs.Prelude.{◌==◌, slice_index}
use Rattle.std.specs.Char.{digit_value}
use Rattle.std.proofs.lemmas.Bool.Decides.{nat_tests}
use Rattle.std.specs.Str.Parse.{ParsesUnsigned, IsNumeral, digits_value, without_leading_plus}
use Rattle.qrev_map.specs.Maps.{IsLineNumber}

without_plus : (digits : List ℕ) → (slice_index digits 0 == 43) ≡ false → without_leading_plus digits ≡ digits
without_plus digits e = ap (λ b. drop (cond b 1 0) digits) e

pub number_read : {E : Type 0} (digits : List ℕ) (read : Result ℕ E) (n : ℕ) → (slice_index digits 0 == 43) ≡ false → ParsesUnsigned 64 10 digits read → read ≡ Ok n → 1 ≤ n → n < 2 ^ 32
    → IsLineNumber digits × (n ≡ digits_value 10 digits)
number_read digits (Ok m) n plus h e least most =
    let none = without_plus digits plus in
    let same : m ≡ n = cc in
    let value : n ≡ digits_value 10 digits = sym same ∙ h.1 ∙ ap (λ v. digits_value 10 v) none in
    ((subst (λ v. IsNumeral 10 v) none h.0.0, omega (arith, value), omega (arith, value)), value)
number_read digits (Err x) n plus h e least most = let never : Err x ≡ Ok n = e in cc

pub number_none : {E : Type 0} (digits : List ℕ) (read : Result ℕ E) → (slice_index digits 0 == 43) ≡ false → ParsesUnsigned 64 10 digits read
    → ((n : ℕ) → read ≡ Ok n → 1 ≤ n → n < 2 ^ 32 → ⊥) → IsLineNumber digits → ⊥
number_none digits (Ok m) plus h never number =
    let none = without_plus digits plus in
    let value : m ≡ digits_value 10 digits = h.1 ∙ ap (λ v. digits_value 10 v) none in
    never m refl (omega (arith, value, number.1)) (omega (arith, value, number.2))
number_none digits (Err x) plus h never number =
    let none = without_plus digits plus in
    let value : digits_value 10 (without_leading_plus digits) ≡ digits_value 10 digits = ap (λ v. digits_value 10 v) none in
    h (subst (λ v. IsNumeral 10 v) (sym none) number.0, omega (arith, value, number.2))

-- a plus is no digit
pub plus_none : (digits : List ℕ) → (slice_index digits 0 == 43) ≡ true → IsLineNumber digits → ⊥
plus_none [] e number = omega (arith, number.0.0)
plus_none (d ∷ ds) e number =
    let is : d ≡ 43 = grind (arith, nat_tests, e) in
    let small : digit_value 43 < 10 = subst (λ v. digit_value v < 10) is number.0.1.0 in
    omega (arith, small)
