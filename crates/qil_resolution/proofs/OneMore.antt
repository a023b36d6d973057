-- The names of one more element of a list are noted, behind those of the elements before it.
use Rattle.std.proofs.Common.{◌≡◌, ◌∙◌, sym, ap, ℕ, ◌+◌, ◌<◌, ◌≤◌, List, [], ◌∷◌, length, drop, get_or, Bor}
use Rattle.std.proofs.lemmas.List.{drop_more, drop_all}
use Rattle.std.specs.Prelude.{map}
use Rattle.std.specs.List.{flat_map}
use Rattle.qil_symbols.specs.Numbers.{noted, recorded}
use Rattle.qil_symbols.proofs.NumberLemmas.{recorded_append}

left_from : {X : Type 0} (xs : List X) (i : ℕ) (x : X) → i < length xs → x ≡ get_or xs i x → drop i xs ≡ x ∷ drop (i + 1) xs
left_from xs i x l e = drop_more xs i x l ∙ ap (λ y. y ∷ drop (i + 1) xs) (sym e)

pub one_more : {X : Type 0} (f : X → List (List ℕ)) (xs : List X) (i : ℕ) (x : X) (old new all : List (List ℕ)) → i < length xs → x ≡ get_or xs i x → new ≡ recorded old (f x) → recorded old (flat_map f (drop i xs)) ≡ all
    → recorded new (flat_map f (drop (i + 1) xs)) ≡ all
one_more f xs i x old new all l e made so_far =
    ap (λ n. recorded n (flat_map f (drop (i + 1) xs))) made ∙ sym (recorded_append old (f x) (flat_map f (drop (i + 1) xs))) ∙ ap (λ ys. recorded old (flat_map f ys)) (sym (left_from xs i x l e)) ∙ so_far

-- the same where each element has one name
pub one_named : {X : Type 0} (f : X → List ℕ) (xs : List X) (i : ℕ) (x : X) (name : List ℕ) (old new all : List (List ℕ)) → i < length xs → x ≡ get_or xs i x → name ≡ f x → new ≡ recorded old (name ∷ []) → recorded old (map f (drop i xs)) ≡ all
    → recorded new (map f (drop (i + 1) xs)) ≡ all
one_named f xs i x name old new all l e named made so_far =
    ap (λ n. recorded n (map f (drop (i + 1) xs))) (made ∙ ap (λ n. recorded old (n ∷ [])) named)
    ∙ sym (recorded_append old (f x ∷ []) (map f (drop (i + 1) xs))) ∙ ap (λ ys. recorded old (map f ys)) (sym (left_from xs i x l e)) ∙ so_far

-- the same of names that are lent
pub one_lent : (xs : List (Bor (List ℕ))) (i : ℕ) (old new all : List (List ℕ)) (d : Bor (List ℕ)) → i < length xs → new ≡ noted old ((get_or xs i d).now) → recorded old (map (λ n. n.now) (drop i xs)) ≡ all
    → recorded new (map (λ n. n.now) (drop (i + 1) xs)) ≡ all
one_lent xs i old new all d l made so_far =
    ap (λ n. recorded n (map (λ n. n.now) (drop (i + 1) xs))) made ∙ ap (λ ys. recorded old (map (λ n. n.now) ys)) (sym (drop_more xs i d l)) ∙ so_far

-- once all elements were gone through, the names of all are noted
pub none_left : {X : Type 0} (f : List X → List (List ℕ)) (xs : List X) (i : ℕ) (old all : List (List ℕ)) → length xs ≤ i → recorded old (f (drop i xs)) ≡ all → recorded old (f []) ≡ all
none_left f xs i old all end so_far = ap (λ ys. recorded old (f ys)) (sym (drop_all i xs end)) ∙ so_far
