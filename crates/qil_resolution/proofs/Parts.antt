-- Lists taken apart at a place.
use Rattle.std.proofs.Common.{◌≡◌, ◌∙◌, sym, ap, refl, subst, ℕ, zero, suc, ◌+◌, ◌<◌, ◌⊎◌, inl, inr, List, [], ◌∷◌, ◌++◌, length, get_or, drop, Some, None, add-one, drop-cons, append_assoc, append-nil, ◌≤◌}
use Rattle.std.specs.Prelude.{map, slice_get, unwrap_or}
use Rattle.std.specs.List.{All, flat_map}
use Rattle.std.proofs.lemmas.List.{drop_all, drop_more, length-map}
use Rattle.std.proofs.lemmas.List.Elements.{All-nil, All-cons, All-append}
use Rattle.std.proofs.lemmas.Option.{get_or_from_slice_get}

-- the elements from a place on: the one there, and those after it
pub at_drop : {X : Type 0} (xs : List X) (i : ℕ) (x : X) → x ≡ get_or xs i x → i < length xs → drop i xs ≡ x ∷ drop (i + 1) xs
at_drop xs i x is lt = drop-cons xs i x lt ∙ ap (λ y. y ∷ drop (suc i) xs) (sym is) ∙ ap (λ n. x ∷ drop n xs) (sym (add-one i))

last_at : {X : Type 0} (y t : X) (i : ℕ) → slice_get (y ∷ []) i ≡ Some t → (i ≡ 0) × (t ≡ y)
last_at y t zero e = (refl, sym (ap (λ o. unwrap_or o t) e))
last_at y t (suc i) e = absurd (subst (λ o. elim o as (λ _. Type 0) [ None ↦ Unit {0} | Some z ↦ ⊥ ]) e tt)

-- with an element more, what is at a place stood there before, or is the new one
pub last_or_before : {X : Type 0} (xs : List X) (y t : X) (i : ℕ) → slice_get (xs ++ y ∷ []) i ≡ Some t → (slice_get xs i ≡ Some t) ⊎ ((i ≡ length xs) × (t ≡ y))
last_or_before [] y t i e = inr (last_at y t i e)
last_or_before (x ∷ xs) y t zero e = inl e
last_or_before (x ∷ xs) y t (suc i) e = further (last_or_before xs y t i e)
  where
    further : (slice_get xs i ≡ Some t) ⊎ ((i ≡ length xs) × (t ≡ y)) → (slice_get (x ∷ xs) (suc i) ≡ Some t) ⊎ ((suc i ≡ length (x ∷ xs)) × (t ≡ y))
    further (inl f) = inl f
    further (inr f) = inr (ap (λ n. suc n) f.0, f.1)

-- the element that a loop is at is at its place
pub is_there : {X : Type 0} (xs : List X) (i : ℕ) (x y : X) → x ≡ get_or xs i x → slice_get xs i ≡ Some y → y ≡ x
is_there xs i x y is at = sym (is ∙ get_or_from_slice_get xs i y x at)

-- with an element more of which P holds, it holds of each
pub all_more : {X : Type 0} (P : X → Type 0) (xs ys : List X) (x : X) → ys ≡ xs ++ x ∷ [] → P x → All P xs → All P ys
all_more P xs ys x is here all = subst (λ l. All P l) (sym is) (All-append P xs (x ∷ []) all (All-cons P x [] here (All-nil P)))

-- what a loop has made so far, with what is left: one element more
pub mapped_more : {X Y : Type 0} (f : X → Y) (xs : List X) (i : ℕ) (x : X) (ys zs all : List Y) (y : Y) → x ≡ get_or xs i x → i < length xs → zs ≡ ys ++ y ∷ [] → y ≡ f x
    → ys ++ map f (drop i xs) ≡ all → zs ++ map f (drop (i + 1) xs) ≡ all
mapped_more f xs i x ys zs all y is lt more made before =
    let rest = map f (drop (i + 1) xs) in
    ap (λ l. l ++ rest) more ∙ append_assoc ys (y ∷ []) rest ∙ ap (λ z. ys ++ (z ∷ rest)) made ∙ ap (λ l. ys ++ map f l) (sym (at_drop xs i x is lt)) ∙ before

-- once all were gone through, what was made is all
pub mapped_all : {X Y : Type 0} (f : X → Y) (xs : List X) (i : ℕ) (ys : List Y) → length xs ≤ i → ys ++ map f (drop i xs) ≡ map f xs → ys ≡ map f xs
mapped_all f xs i ys end before = sym (append-nil ys) ∙ ap (λ l. ys ++ map f l) (sym (drop_all i xs end)) ∙ before

pub mapped_within : {X Y : Type 0} (f : X → Y) (xs : List X) (ys : List Y) (n : ℕ) → ys ≡ map f xs → length xs < n → length ys < n
mapped_within f xs ys n e l = subst (λ k. k < n) (sym (ap length e ∙ length-map xs f)) l

-- the same of a function that makes lists, over a slice of the elements
pub flat_more : {X Y : Type 0} (f : X → List Y) (s xs : List X) (i : ℕ) (x : X) (ys zs all : List Y) → s ≡ xs → x ≡ get_or s i x → i < length s → zs ≡ ys ++ f x
    → ys ++ flat_map f (drop i xs) ≡ all → zs ++ flat_map f (drop (i + 1) xs) ≡ all
flat_more f s xs i x ys zs all same is lt more before =
    let rest = flat_map f (drop (i + 1) xs) in
    let there : drop i xs ≡ x ∷ drop (i + 1) xs = subst (λ l. drop i l ≡ x ∷ drop (i + 1) l) same (at_drop s i x is lt) in
    ap (λ l. l ++ rest) more ∙ append_assoc ys (f x) rest ∙ ap (λ l. ys ++ flat_map f l) (sym there) ∙ before

pub flat_all : {X Y : Type 0} (f : X → List Y) (s xs : List X) (i : ℕ) (ys all : List Y) → s ≡ xs → length s ≤ i → ys ++ flat_map f (drop i xs) ≡ all → ys ≡ all
flat_all f s xs i ys all same end before =
    sym (append-nil ys) ∙ ap (λ l. ys ++ flat_map f l) (sym (subst (λ l. drop i l ≡ []) same (drop_all i s end))) ∙ before

-- the same of a list that is made anew, an element at a time
pub copied_more : {X : Type 0} (xs : List X) (i : ℕ) (d : X) (ys zs all : List X) → i < length xs → zs ≡ ys ++ get_or xs i d ∷ [] → ys ++ drop i xs ≡ all → zs ++ drop (i + 1) xs ≡ all
copied_more xs i d ys zs all lt more before =
    ap (λ l. l ++ drop (i + 1) xs) more ∙ append_assoc ys (get_or xs i d ∷ []) (drop (i + 1) xs) ∙ ap (λ l. ys ++ l) (sym (drop_more xs i d lt)) ∙ before

pub copied_all : {X : Type 0} (xs : List X) (i : ℕ) (ys all : List X) → length xs ≤ i → ys ++ drop i xs ≡ all → ys ≡ all
copied_all xs i ys all end before = sym (append-nil ys) ∙ ap (λ l. ys ++ l) (sym (drop_all i xs end)) ∙ before
