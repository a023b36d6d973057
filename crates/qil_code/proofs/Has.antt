-- Names that have a number among names: each name of a list has one where the list is taken once, and the name at a number is the one that has it.
use Rattle.std.proofs.Common.{◌≡◌, ◌∙◌, refl, sym, ap, subst, ℕ, zero, suc, Bool, true, false, if◌then◌else◌, List, [], ◌∷◌, ◌++◌, Option, Some, None}
use Rattle.std.specs.Prelude.{option_map, unwrap_or, filter, not, slice_get}
use Rattle.std.specs.List.{flat_map}
use Rattle.std.specs.Str.{bytes_eq}
use Rattle.std.proofs.lemmas.Slice.Eq.{bytes_eq-Decides}
use Rattle.qil_rules.specs.Text.{IsAmong}
use Rattle.qil_symbols.specs.Numbers.{place_of}
use Rattle.qil_semantics.specs.State.{Name}
use Rattle.qil_semantics.specs.Names.{once}
use Rattle.qil_code.specs.Slots.{name_at, number_in}

abbrev pub Has : List Name → Name → Type 0
Has ns x = (i : ℕ) × (place_of ns x ≡ Some i)

abbrev pub HasAll : List Name → List Name → Type 0
HasAll ns [] = Unit {0}
HasAll ns (x ∷ xs) = Has ns x × HasAll ns xs

-- ---- a name among more names

later_by : (n : Name) (ns : List Name) (x : Name) (b : Bool) → bytes_eq n x ≡ b → Has ns x → Has (n ∷ ns) x
unfolding place_of
later_by n ns x true e h = (0, rw e refl)
later_by n ns x false e h = (suc h.0, rw e (rw h.1 refl))

pub has-later : (n : Name) (ns : List Name) (x : Name) → Has ns x → Has (n ∷ ns) x
has-later n ns x h = later_by n ns x (bytes_eq n x) refl h

pub has-here : (n : Name) (ns : List Name) (x : Name) → bytes_eq n x ≡ true → Has (n ∷ ns) x
unfolding place_of
has-here n ns x e = (0, rw e refl)

same_name : (x : Name) → bytes_eq x x ≡ true
same_name x = (bytes_eq-Decides x x).1 refl

all-later : (n : Name) (ns xs : List Name) → HasAll ns xs → HasAll (n ∷ ns) xs
all-later n ns [] h = tt
all-later n ns (x ∷ xs) h = (has-later n ns x h.0, all-later n ns xs h.1)

pub has-self : (xs : List Name) → HasAll xs xs
has-self [] = tt
has-self (x ∷ xs) = (has-here x xs x (same_name x), all-later x xs xs (has-self xs))

-- ---- names, each once

kept_has : (b : Bool) (n : Name) (ns : List Name) (x : Name) → Has ns x → Has (if b then n ∷ ns else ns) x
kept_has true n ns x h = has-later n ns x h
kept_has false n ns x h = h

filter_at : (t : Name → Bool) (n : Name) (ns : List Name) (x : Name) (b : Bool) (o : Option ℕ) → bytes_eq n x ≡ b → ((i : ℕ) → o ≡ Some i → Has (filter t ns) x)
    → t x ≡ true → (i : ℕ) → (if b then Some 0 else option_map (λ j. suc j) o) ≡ Some i → Has (if t n then n ∷ filter t ns else filter t ns) x
filter_at t n ns x true o e deep keep i at =
    let kept : t n ≡ true = ap t ((bytes_eq-Decides n x).0 e) ∙ keep in
    subst (λ b. Has (if b then n ∷ filter t ns else filter t ns) x) (sym kept) (has-here n (filter t ns) x e)
filter_at t n ns x false None e deep keep i at = absurd cc
filter_at t n ns x false (Some j) e deep keep i at = kept_has (t n) n (filter t ns) x (deep j refl)

filter_has : (t : Name → Bool) (ns : List Name) (x : Name) → t x ≡ true → (i : ℕ) → place_of ns x ≡ Some i → Has (filter t ns) x
unfolding place_of
filter_has t [] x keep i at = absurd cc
filter_has t (n ∷ ns) x keep i at = filter_at t n ns x (bytes_eq n x) (place_of ns x) refl (λ j e. filter_has t ns x keep j e) keep i at

in_once : (y : Name) (ys : List Name) (x : Name) (b : Bool) → bytes_eq y x ≡ b → Has (once ys) x → Has (y ∷ filter (λ z. not (bytes_eq y z)) (once ys)) x
in_once y ys x true e h = has-here y _ x e
in_once y ys x false e h = has-later y _ x (filter_has (λ z. not (bytes_eq y z)) (once ys) x (ap not e) h.0 h.1)

later_once : (y : Name) (ys xs : List Name) → HasAll (once ys) xs → HasAll (once (y ∷ ys)) xs
unfolding once
later_once y ys [] h = tt
later_once y ys (x ∷ xs) h = (in_once y ys x (bytes_eq y x) refl h.0, later_once y ys xs h.1)

pub once-has : (xs : List Name) → HasAll (once xs) xs
unfolding once
once-has [] = tt
once-has (x ∷ xs) = (has-here x _ x (same_name x), later_once x xs xs (once-has xs))

-- ---- parts of a list of which each name has a number

pub HasAll-left : (ns xs ys : List Name) → HasAll ns (xs ++ ys) → HasAll ns xs
HasAll-left ns [] ys h = tt
HasAll-left ns (x ∷ xs) ys h = (h.0, HasAll-left ns xs ys h.1)

pub HasAll-right : (ns xs ys : List Name) → HasAll ns (xs ++ ys) → HasAll ns ys
HasAll-right ns [] ys h = h
HasAll-right ns (x ∷ xs) ys h = HasAll-right ns xs ys h.1

pub HasAll-part : {X : Type 0} (ns : List Name) (f : X → List Name) (xs : List X) (k : ℕ) (x : X) → slice_get xs k ≡ Some x → HasAll ns (flat_map f xs) → HasAll ns (f x)
HasAll-part ns f [] k x at h = absurd cc
HasAll-part ns f (y ∷ ys) zero x at h = subst (λ z. HasAll ns (f z)) (ap (λ o. unwrap_or o x) at) (HasAll-left ns (f y) (flat_map f ys) h)
HasAll-part ns f (y ∷ ys) (suc k) x at h = HasAll-part ns f ys k x at (HasAll-right ns (f y) (flat_map f ys) h)

-- ---- the name at a number

name_here : (b : Bool) (n x : Name) (ns : List Name) (deep : Option ℕ) (i : ℕ) → (b ≡ true → n ≡ x)
    → ((j : ℕ) → deep ≡ Some j → slice_get ns j ≡ Some x)
    → (if b then Some 0 else option_map (λ j. suc j) deep) ≡ Some i → slice_get (n ∷ ns) i ≡ Some x
name_here true n x ns deep i t h e = subst (λ k. slice_get (n ∷ ns) k ≡ Some x) (ap (λ o. unwrap_or o 0) e) (ap (λ y. Some y) (t refl))
name_here false n x ns None i t h e = absurd cc
name_here false n x ns (Some j) i t h e = subst (λ k. slice_get (n ∷ ns) k ≡ Some x) (ap (λ o. unwrap_or o 0) e) (h j refl)

pub name-at : (ns : List Name) (x : Name) (i : ℕ) → place_of ns x ≡ Some i → slice_get ns i ≡ Some x
unfolding place_of
name-at [] x i e = absurd cc
name-at (n ∷ ns) x i e = name_here (bytes_eq n x) n x ns (place_of ns x) i (λ t. (bytes_eq-Decides n x).0 t) (λ j f. name-at ns x j f) e

pub name-number : (ns : List Name) (x : Name) → Has ns x → name_at ns (number_in ns x) ≡ x
name-number ns x h = rw h.1 (ap (λ o. unwrap_or o []) (name-at ns x h.0 h.1))

-- ---- to have a number is to be among the names

pub has-among : (ns : List Name) (x : Name) (i : ℕ) → slice_get ns i ≡ Some x → Has ns x
has-among [] x i at = absurd cc
has-among (n ∷ ns) x zero at = has-here n ns x ((bytes_eq-Decides n x).1 (ap (λ o. unwrap_or o x) at))
has-among (n ∷ ns) x (suc i) at = has-later n ns x (has-among ns x i at)

pub among-has : (ns : List Name) (x : Name) → Has ns x → IsAmong x ns
among-has ns x h = (h.0, name-at ns x h.0 h.1)

pub all-among : (ns xs : List Name) → ((x : Name) → IsAmong x xs → IsAmong x ns) → HasAll ns xs
all-among ns [] h = tt
all-among ns (x ∷ xs) h =
    let here : IsAmong x ns = h x (0, refl) in
    (has-among ns x here.0 here.1, all-among ns xs (λ y w. h y (suc w.0, w.1)))
