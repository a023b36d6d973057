-- What a temporary is made of by its slot is what it is made of by its name.
use Rattle.std.proofs.Common.{◌≡◌, ℕ, zero, suc, Bool, true, false, List, [], ◌∷◌, length, get_or, Option, Some, None, option_map, unwrap_or, if◌then◌else◌, refl, sym, ap, subst, arith}
use Rattle.std.specs.Prelude.{replicate, slice_set}
use Rattle.std.specs.Str.{bytes_eq}
use Rattle.std.proofs.lemmas.Slice.Eq.{bytes_eq-Decides}
use Rattle.qil_symbols.specs.Numbers.{place_of}
use Rattle.qil_semantics.specs.State.{Name}
use Rattle.qil_shadow.specs.declared.origin.Origin.{Origin}
use Rattle.qil_shadow.specs.declared.origin.Origin.TheVariants as origins
use Rattle.qil_shadow.specs.Shadow.{none_set, with_origin}
use Rattle.qil_shadow.specs.Numbered.{origins_by}

some_suc : (o : Option ℕ) (i : ℕ) → option_map (λ k. suc k) o ≡ Some i → (k : ℕ) × (i ≡ suc k) × (o ≡ Some k)
some_suc None i e = absurd (cc)
some_suc (Some k) i e = (k, ap (λ q. unwrap_or q 0) (sym e), refl)

-- by the test of the first name
first_name : (b : Bool) (o : Origin) (os : List Origin) (rest : Option ℕ) (i : ℕ) (others : Origin)
    → ((k : ℕ) → rest ≡ Some k → get_or os k origins.Number ≡ others)
    → (if b then Some 0 else option_map (λ k. suc k) rest) ≡ Some i
    → get_or (o ∷ os) i origins.Number ≡ (if b then o else others)
first_name true o os rest i others later e = let at : 0 ≡ i = ap (λ q. unwrap_or q 0) e in rw (sym at) refl
first_name false o os rest i others later e = let found = some_suc rest i e in rw (found.1) (later found.0 found.2)

pub slot_by_name : (ns : List Name) (os : List Origin) (x : Name) (i : ℕ) → length ns ≡ length os → place_of ns x ≡ Some i
    → get_or os i origins.Number ≡ origins_by ns os x
unfolding place_of origins_by
slot_by_name [] os x i e found = absurd (cc)
slot_by_name (n ∷ ns) [] x i e found = absurd (omega (arith, e))
slot_by_name (n ∷ ns) (o ∷ os) x i e found =
    first_name (bytes_eq n x) o os (place_of ns x) i (origins_by ns os x) (λ k later. slot_by_name ns os x k (omega (arith, e)) later) found

-- ---- a slot that is set

equal_names : (x y : Name) → bytes_eq x y ≡ true → x ≡ y
equal_names x y e = (bytes_eq-Decides x y).0 e

apart : (n x y : Name) → bytes_eq n x ≡ false → bytes_eq n y ≡ true → bytes_eq x y ≡ false
apart n x y e f = grind (arith, e, f, bytes_eq-Decides n x, bytes_eq-Decides n y, bytes_eq-Decides x y)

set_here : (c : Bool) (w v t : Origin) → (if c then v else t) ≡ (if c then v else (if c then w else t))
set_here true w v t = refl
set_here false w v t = refl

set_deep : (c d : Bool) (w v a t : Origin) → (c ≡ true → d ≡ false) → a ≡ (if d then v else t) → (if c then w else a) ≡ (if d then v else (if c then w else t))
set_deep true d w v a t h e = rw (h refl) refl
set_deep false d w v a t h e = e

abbrev Sets : List Name → List Origin → Name → ℕ → Origin → Name → Type 0
Sets ns os x i m y = origins_by ns (slice_set os i m) y ≡ with_origin (origins_by ns os) x m y

at_slot : (n : Name) (ns : List Name) (w : Origin) (os : List Origin) (x : Name) (i : ℕ) (m : Origin) (y : Name) (b : Bool) (o : Option ℕ)
    → bytes_eq n x ≡ b → ((j : ℕ) → o ≡ Some j → Sets ns os x j m y) → (if b then Some 0 else option_map (λ j. suc j) o) ≡ Some i → Sets (n ∷ ns) (w ∷ os) x i m y
unfolding origins_by with_origin
at_slot n ns w os x i m y true o e h g =
    let same : n ≡ x = equal_names n x e in
    subst (λ k. Sets (n ∷ ns) (w ∷ os) x k m y) (ap (λ q. unwrap_or q 0) g) (subst (λ z. Sets (n ∷ ns) (w ∷ os) z 0 m y) same (set_here (bytes_eq n y) w m (origins_by ns os y)))
at_slot n ns w os x i m y false None e h g = absurd (cc)
at_slot n ns w os x i m y false (Some j) e h g =
    subst (λ k. Sets (n ∷ ns) (w ∷ os) x k m y) (ap (λ q. unwrap_or q 0) g)
    (set_deep (bytes_eq n y) (bytes_eq x y) w m (origins_by ns (slice_set os j m) y) (origins_by ns os y) (λ f. apart n x y e f) (h j refl))

set_at : (ns : List Name) (os : List Origin) (x : Name) (i : ℕ) (m : Origin) (y : Name) → length ns ≡ length os → place_of ns x ≡ Some i → Sets ns os x i m y
unfolding place_of
set_at [] os x i m y e found = absurd (cc)
set_at (n ∷ ns) [] x i m y e found = absurd (omega (arith, e))
set_at (n ∷ ns) (o ∷ os) x i m y e found = at_slot n ns o os x i m y (bytes_eq n x) (place_of ns x) refl (λ j deep. set_at ns os x j m y (omega (arith, e)) deep) found

pub slot_set : (ns : List Name) (os : List Origin) (x : Name) (i : ℕ) (m : Origin) → length ns ≡ length os → place_of ns x ≡ Some i
    → origins_by ns (slice_set os i m) ≡ with_origin (origins_by ns os) x m
slot_set ns os x i m e found = λ path y. set_at ns os x i m y e found path

-- ---- none is set

none_at : (ns : List Name) (n : ℕ) (x : Name) → origins_by ns (replicate n origins.Number) x ≡ origins.Number
unfolding origins_by
none_at [] n x = refl
none_at (m ∷ ns) zero x = refl
none_at (m ∷ ns) (suc n) x = either (bytes_eq m x) origins.Number (origins_by ns (replicate n origins.Number) x) (none_at ns n x)
  where
    either : (b : Bool) (o p : Origin) → p ≡ o → (if b then o else p) ≡ o
    either true o p e = refl
    either false o p e = e

pub slots_none : (ns : List Name) (n : ℕ) → origins_by ns (replicate n origins.Number) ≡ none_set
slots_none ns n = λ path x. none_at ns n x path
