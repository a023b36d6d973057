-- The keys of a set as names, and their places as numbers.
use Rattle.std.proofs.Common.{◌≡◌, refl, sym, ap, ◌∙◌, ℕ, suc, ◌+◌, ◌<◌, Bool, true, false, cond, if◌then◌else◌, List, [], ◌∷◌, ◌++◌, length, Option, Some, None, IfSome, subst, arith, Bor}
use Rattle.std.specs.Prelude.{map, option_map, ◌||◌, nat_lt, not}
use Rattle.std.specs.List.{list_any, position, prefix_len}
use Rattle.std.specs.Str.{bytes_eq}
use Rattle.std.proofs.lemmas.Bool.Decides.{nat_tests}
use Rattle.indexmap.specs.IndexSet.{insert_key}
use Rattle.std.proofs.lemmas.Slice.Eq.{bytes_eq-Decides}
use Rattle.qil_symbols.specs.Numbers.{place_of, noted, recorded, names_of}
use Rattle.qil_symbols.proofs.NumberLemmas.{recorded_append, names-append}

abbrev pub same : Bor (List ℕ) → Bor (List ℕ) → Bool
same x y = bytes_eq x.now y.now

any_of : (x : Bor (List ℕ)) (ks : List (Bor (List ℕ))) → list_any (same x) ks ≡ list_any (bytes_eq x.now) (names_of ks)
any_of x [] = refl
any_of x (k ∷ ks) = ap (λ b. bytes_eq x.now k.now || b) (any_of x ks)

names-if : (b : Bool) (ks : List (Bor (List ℕ))) (x : Bor (List ℕ)) → names_of (if b then ks else ks ++ x ∷ []) ≡ (if b then names_of ks else names_of ks ++ x.now ∷ [])
names-if true ks x = refl
names-if false ks x = names-append ks x

-- a key more is a name more
pub names-insert : (ks : List (Bor (List ℕ))) (x : Bor (List ℕ)) → names_of (insert_key same ks x) ≡ noted (names_of ks) x.now
names-insert ks x = names-if (list_any (same x) ks) ks x ∙ ap (λ b. if b then names_of ks else names_of ks ++ x.now ∷ []) (any_of x ks)

-- ---- names that stand once each

noted-settled : (b : Bool) (ns : List (List ℕ)) (x : List ℕ) → list_any (bytes_eq x) ns ≡ b → recorded [] ns ≡ ns
    → recorded [] (if b then ns else ns ++ x ∷ []) ≡ (if b then ns else ns ++ x ∷ [])
noted-settled true ns x e once = once
noted-settled false ns x e once = recorded_append [] ns (x ∷ []) ∙ ap (λ ms. noted ms x) once ∙ ap (λ c. if c then ns else ns ++ x ∷ []) e

-- they still do with a name more
pub stays-settled : (ks ls : List (Bor (List ℕ))) (x : Bor (List ℕ)) → ls ≡ insert_key same ks x → recorded [] (names_of ks) ≡ names_of ks
    → recorded [] (names_of ls) ≡ names_of ls
stays-settled ks ls x more once =
    let names : names_of ls ≡ noted (names_of ks) x.now = ap names_of more ∙ names-insert ks x in
    ap (λ ms. recorded [] ms) names
    ∙ noted-settled (list_any (bytes_eq x.now) (names_of ks)) (names_of ks) x.now refl once
    ∙ sym names

-- ---- places

turned : (x y : List ℕ) → bytes_eq x y ≡ bytes_eq y x
turned x y = by (bytes_eq x y) (bytes_eq y x) refl refl
  where
    by : (b c : Bool) → bytes_eq x y ≡ b → bytes_eq y x ≡ c → b ≡ c
    by true true e f = refl
    by false false e f = refl
    by true false e f = grind (arith, e, f, bytes_eq-Decides x y, bytes_eq-Decides y x)
    by false true e f = grind (arith, e, f, bytes_eq-Decides x y, bytes_eq-Decides y x)

next_test : (k n : ℕ) → nat_lt (1 + k) (suc n) ≡ nat_lt k n
next_test k n = by (nat_lt k n) refl
  where
    by : (c : Bool) → nat_lt k n ≡ c → nat_lt (1 + k) (suc n) ≡ c
    by true f = grind (arith, nat_tests, f)
    by false f = grind (arith, nat_tests, f)

next_place : (b c : Bool) (k : ℕ) (deep : Option ℕ) → c ≡ b → cond b (Some k) None ≡ deep → cond c (Some (1 + k)) None ≡ option_map (λ i. suc i) deep
next_place true c k deep e f = rw e (rw (← f) (ap Some (omega arith)))
next_place false c k deep e f = rw e (rw (← f) refl)

-- the first place after an element
behind : (b : Bool) (k n : ℕ) (deep : Option ℕ) → cond (nat_lt k n) (Some k) None ≡ deep
    → cond (nat_lt (cond (not b) (1 + k) 0) (suc n)) (Some (cond (not b) (1 + k) 0)) None ≡ (if b then Some 0 else option_map (λ i. suc i) deep)
behind true k n deep e = let below : nat_lt 0 (suc n) ≡ true = grind (arith, nat_tests) in rw below refl
behind false k n deep e = next_place (nat_lt k n) (nat_lt (1 + k) (suc n)) k deep (next_test k n) e

-- the place of a key is the number of its name
pub position-place : (x : List ℕ) (ks : List (Bor (List ℕ))) → position (λ k. bytes_eq x k.now) ks ≡ place_of (names_of ks) x
unfolding place_of
position-place x [] = refl
position-place x (k ∷ ks) =
    behind (bytes_eq x k.now) (prefix_len (λ k. not (bytes_eq x k.now)) ks) (length ks) (place_of (names_of ks) x) (position-place x ks)
    ∙ ap (λ b. if b then Some 0 else option_map (λ i. suc i) (place_of (names_of ks) x)) (turned x k.now)
