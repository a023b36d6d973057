-- The number that a line says, against what was read of it.
use Rattle.std.proofs.Common.{◌≡◌, ℕ, ◌-◌, ◌<◌, ◌≤◌, ◌^◌, List, length, take, drop, refl, sym, ap, ◌∙◌, arith, subst, Ok, Err, Result}
use Rattle.std.specs.Str.{IsTrimAscii}
use Rattle.std.specs.Str.Parse.{ParsesUnsigned, IsNumeral, digits_value, without_leading_plus}
use Rattle.std.proofs.lemmas.Str.Ascii.{trim_ascii_is}
use Rattle.std.proofs.lemmas.List.{take_rest}
use Rattle.qrev_protocol.specs.Frame.{trimmed, trimmed_front, Says}

pub trimmed_is : (line value : List ℕ) → IsTrimAscii (take (length line - 15) (drop 15 line)) value → value ≡ trimmed (drop 15 line)
trimmed_is line value h =
    trim_ascii_is (drop 15 line) value (trimmed_front (drop 15 line)) refl (subst (λ v. IsTrimAscii v value) (take_rest line 15) h)

pub says_read : {E : Type 0} (line value : List ℕ) (read : Result ℕ E) (n : ℕ) → value ≡ trimmed (drop 15 line) → ParsesUnsigned 64 10 value read → read ≡ Ok n → Says line n
says_read line value (Ok m) n v h e =
    let same : m ≡ n = cc in
    (subst (λ x. IsNumeral 10 (without_leading_plus x)) v h.0.0, ap (λ x. digits_value 10 (without_leading_plus x)) (sym v) ∙ sym h.1 ∙ same)
says_read line value (Err x) n v h e = let never : Err x ≡ Ok n = e in cc

pub says_none : {E : Type 0} (line value : List ℕ) (read : Result ℕ E) → value ≡ trimmed (drop 15 line) → ParsesUnsigned 64 10 value read → ((n : ℕ) → read ≡ Ok n → 2 ^ 20 < n) → (n : ℕ) → n ≤ 2 ^ 20 → Says line n → ⊥
says_none line value (Ok m) v h large n small says =
    let same : digits_value 10 (without_leading_plus value) ≡ n = ap (λ x. digits_value 10 (without_leading_plus x)) v ∙ says.1 in
    let above = large m refl in
    let read = h.1 in
    omega arith
says_none line value (Err x) v h large n small says =
    let same : digits_value 10 (without_leading_plus value) ≡ n = ap (λ x. digits_value 10 (without_leading_plus x)) v ∙ says.1 in
    h (subst (λ x. IsNumeral 10 (without_leading_plus x)) (sym v) says.0, omega arith)
