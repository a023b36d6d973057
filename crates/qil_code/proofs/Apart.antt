-- Names of which no two are equal are recorded as they stand.
use Rattle.std.proofs.Common.{◌≡◌, refl, sym, ap, ◌∙◌, ℕ, suc, ◌<◌, Bool, true, false, List, [], ◌∷◌, Some, arith}
use Rattle.std.specs.Prelude.{slice_get, filter, not}
use Rattle.std.specs.Str.{bytes_eq}
use Rattle.std.proofs.lemmas.Slice.Eq.{bytes_eq-Decides}
use Rattle.qil_symbols.specs.Numbers.{recorded}
use Rattle.qil_semantics.specs.State.{Name}
use Rattle.qil_semantics.specs.Names.{once}
use Rattle.qil_code.proofs.Once.{recorded-once}

-- no name is at two places
abbrev pub AreApart : List Name → Type 0
AreApart xs = (i j : ℕ) (x : Name) → i < j → slice_get xs i ≡ Some x → slice_get xs j ≡ Some x → ⊥

other_name : (x y : Name) (b : Bool) → bytes_eq x y ≡ b → (x ≡ y → ⊥) → b ≡ false
other_name x y true e h = absurd (h ((bytes_eq-Decides x y).0 e))
other_name x y false e h = refl

all_kept : (x : Name) (xs : List Name) → ((j : ℕ) (y : Name) → slice_get xs j ≡ Some y → x ≡ y → ⊥) → filter (λ y. not (bytes_eq x y)) xs ≡ xs
all_kept x [] h = refl
all_kept x (y ∷ xs) h =
    let e : bytes_eq x y ≡ false = other_name x y (bytes_eq x y) refl (λ s. h 0 y refl s) in
    rw e (ap (λ l. y ∷ l) (all_kept x xs (λ j z at. h (suc j) z at)))

once-same : (xs : List Name) → AreApart xs → once xs ≡ xs
unfolding once
once-same [] h = refl
once-same (x ∷ xs) h =
    let deep : once xs ≡ xs = once-same xs (λ i j y l a b. h (suc i) (suc j) y (omega (arith, l)) a b) in
    ap (λ l. x ∷ filter (λ y. not (bytes_eq x y)) l) deep
    ∙ ap (λ l. x ∷ l) (all_kept x xs (λ j y at s. h 0 (suc j) x (omega arith) refl (at ∙ ap Some (sym s))))

pub recorded-same : (xs : List Name) → AreApart xs → recorded [] xs ≡ xs
recorded-same xs h = recorded-once xs ∙ once-same xs h
