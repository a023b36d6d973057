-- The names of a function's temporaries are distinct.
use Rattle.std.proofs.Common.{◌≡◌, refl, ℕ, zero, suc, ◌<◌, Bool, true, false, if◌then◌else◌, List, [], ◌∷◌, ◌++◌, length, Option, Some, None, arith}
use Rattle.std.specs.Prelude.{map, filter, not}
use Rattle.std.specs.List.{flat_map}
use Rattle.std.specs.Str.{bytes_eq}
use Rattle.std.proofs.lemmas.Slice.Eq.{bytes_eq-Decides}
use Rattle.qil_tree.specs.declared.tree.Func.{Func}
use Rattle.qil_tree.specs.declared.tree.Program.{Program}
use Rattle.qil_semantics.specs.State.{Name}
use Rattle.qil_semantics.specs.Slots.{slot_of}
use Rattle.qil_semantics.specs.Names.{once, block_names}
use Rattle.qil_code.specs.Slots.{name_at}
use Rattle.qil_code.specs.Numbered.{func_at, names_in, names_of}

-- a name is none of these
abbrev IsAbsent : Name → List Name → Type 0
IsAbsent x [] = Unit {0}
IsAbsent x (n ∷ ns) = (bytes_eq n x ≡ false) × (bytes_eq x n ≡ false) × IsAbsent x ns

abbrev AreApart : List Name → Type 0
AreApart [] = Unit {0}
AreApart (n ∷ ns) = IsAbsent n ns × AreApart ns

turned : (x y : Name) → bytes_eq x y ≡ false → bytes_eq y x ≡ false
turned x y e = grind (arith, e, bytes_eq-Decides x y, bytes_eq-Decides y x)

same_name : (x : Name) → bytes_eq x x ≡ true
same_name x = grind (arith, bytes_eq-Decides x x)

-- ---- a filter keeps it so

absent_kept : (b : Bool) (x n : Name) (others : List Name) → (bytes_eq n x ≡ false) × (bytes_eq x n ≡ false) × IsAbsent x others → IsAbsent x (if b then n ∷ others else others)
absent_kept true x n others h = h
absent_kept false x n others h = h.2

absent_filter : (t : Name → Bool) (x : Name) (ns : List Name) → IsAbsent x ns → IsAbsent x (filter t ns)
absent_filter t x [] h = tt
absent_filter t x (n ∷ ns) h = absent_kept (t n) x n (filter t ns) (h.0, h.1, absent_filter t x ns h.2)

apart_kept : (b : Bool) (n : Name) (others : List Name) → IsAbsent n others → AreApart others → AreApart (if b then n ∷ others else others)
apart_kept true n others h k = (h, k)
apart_kept false n others h k = k

apart_filter : (t : Name → Bool) (ns : List Name) → AreApart ns → AreApart (filter t ns)
apart_filter t [] h = tt
apart_filter t (n ∷ ns) h = apart_kept (t n) n (filter t ns) (absent_filter t n ns h.0) (apart_filter t ns h.1)

-- ---- names, each once

gone : (b : Bool) (x n : Name) (others : List Name) → bytes_eq x n ≡ b → IsAbsent x others → IsAbsent x (if not b then n ∷ others else others)
gone true x n others e h = h
gone false x n others e h = (turned x n e, e, h)

absent_others : (x : Name) (ns : List Name) → IsAbsent x (filter (λ y. not (bytes_eq x y)) ns)
absent_others x [] = tt
absent_others x (n ∷ ns) = gone (bytes_eq x n) x n (filter (λ y. not (bytes_eq x y)) ns) refl (absent_others x ns)

once_apart : (xs : List Name) → AreApart (once xs)
unfolding once
once_apart [] = tt
once_apart (x ∷ xs) = (absent_others x (once xs), apart_filter (λ y. not (bytes_eq x y)) (once xs) (once_apart xs))

-- ---- the name at a number has that number

absent_at : (x : Name) (ns : List Name) (i : ℕ) → IsAbsent x ns → i < length ns → bytes_eq x (name_at ns i) ≡ false
absent_at x [] i h l = absurd (omega (arith, l))
absent_at x (n ∷ ns) zero h l = h.1
absent_at x (n ∷ ns) (suc i) h l = absent_at x ns i h.2 (omega (arith, l))

apart_slot : (ns : List Name) (i : ℕ) → AreApart ns → i < length ns → slot_of ns (name_at ns i) ≡ Some i
unfolding slot_of
apart_slot [] i h l = absurd (omega (arith, l))
apart_slot (n ∷ ns) zero h l = rw (same_name n) refl
apart_slot (n ∷ ns) (suc i) h l =
    let deep : slot_of ns (name_at ns i) ≡ Some i = apart_slot ns i h.1 (omega (arith, l)) in
    let other : bytes_eq n (name_at ns i) ≡ false = absent_at n ns i h.0 (omega (arith, l)) in
    rw other (rw deep refl)

named_apart : {A : Type 0} (func : Option (Func A)) → AreApart (names_in func)
named_apart None = tt
named_apart (Some func) = once_apart (map (λ q. q.name) func.params ++ flat_map block_names func.blocks)

pub names_distinct : {A : Type 0} (p : Program A) (f i : ℕ) → i < length (names_of p f) → slot_of (names_of p f) (name_at (names_of p f) i) ≡ Some i
unfolding names_of
names_distinct p f i l = apart_slot (names_in (func_at p f)) i (named_apart (func_at p f)) l
