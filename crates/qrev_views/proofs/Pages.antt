-- Pages of lists, item by item.
use Rattle.std.proofs.Common.{◌≡◌, refl, sym, ap, ◌∙◌, ℕ, zero, suc, ◌+◌, ◌-◌, ◌<◌, ◌≤◌, List, [], ◌∷◌, ◌++◌, length, take, drop, Option, Some, None, ◌⊎◌, inl, inr, arith, append_assoc}
use Rattle.std.specs.Prelude.{flat_map, min, slice_get}
use Rattle.std.proofs.Math.ListN.{drop_of_length-le}
use Rattle.std.proofs.lemmas.Bool.{cases_lt}
use Rattle.std.proofs.lemmas.List.{append-nil, length-drop, take_all, take_rest}
use Rattle.qrev_views.specs.Pages.{page_of}
use Rattle.qrev_views.specs.declared.variable.Page.{Page}

-- what the items of a list from one place up to another make, one after the other
abbrev pub made : {X Y : Type 0} → (X → List Y) → List X → ℕ → ℕ → List Y
made f xs first after = flat_map f (take (after - first) (drop first xs))

same : {X : Type 0} (x y : X) → Some x ≡ Some y → x ≡ y
same x y e = cc

-- an item more is taken
pub take_more : {X : Type 0} (xs : List X) (i : ℕ) (x : X) → slice_get xs i ≡ Some x → take (suc i) xs ≡ take i xs ++ x ∷ []
take_more [] i x e = absurd cc
take_more (y ∷ ys) zero x e = ap (λ z. z ∷ []) (same y x e)
take_more {X = X} (y ∷ ys) (suc i) x e = ap (λ (t : List X). y ∷ t) (take_more ys i x e)

one_more : {X Y : Type 0} (f : X → List Y) (xs : List X) (i : ℕ) (x : X) → slice_get xs i ≡ Some x → flat_map f (take (suc i) xs) ≡ flat_map f (take i xs) ++ f x
one_more f [] i x e = absurd cc
one_more f (y ∷ ys) zero x e = append-nil (f y) ∙ ap f (same y x e)
one_more {Y = Y} f (y ∷ ys) (suc i) x e = ap (λ (t : List Y). f y ++ t) (one_more f ys i x e) ∙ sym (append_assoc (f y) (flat_map f (take i ys)) (f x))

pub dropped : {X : Type 0} (xs : List X) (n i j : ℕ) → j ≡ n + i → slice_get (drop n xs) i ≡ slice_get xs j
dropped xs zero i j e = let same : i ≡ j = omega (arith, e) in ap (slice_get xs) same
dropped [] (suc n) i zero e = absurd (omega (arith, e))
dropped [] (suc n) i (suc j) e = search
dropped (x ∷ xs) (suc n) i zero e = absurd (omega (arith, e))
dropped (x ∷ xs) (suc n) i (suc j) e = dropped xs n i j (omega (arith, e))

-- an item more
pub next_item : {X Y : Type 0} (f : X → List Y) (xs : List X) (first i : ℕ) (x : X) → first ≤ i → slice_get xs i ≡ Some x → made f xs first (i + 1) ≡ made f xs first i ++ f x
next_item {X} {Y} f xs first i x from at =
    let k : ℕ = i - first in
    let is : i ≡ first + k = omega (arith, from) in
    let more : i + 1 - first ≡ suc k = omega (arith, from) in
    ap (λ (n : ℕ). flat_map f (take n (drop first xs))) more
    ∙ one_more f (drop first xs) k x (dropped xs first k i is ∙ at)

-- past the first place no item was made
pub none_yet : {X Y : Type 0} (f : X → List Y) (xs : List X) (first : ℕ) → made f xs first first ≡ []
none_yet f xs first = let e : first - first ≡ 0 = omega arith in ap (λ (n : ℕ). flat_map f (take n (drop first xs))) e

-- the items from a place on, of which there are enough, or fewer
taken_by : {X : Type 0} (xs : List X) (start count first after : ℕ) → (length xs < start) ⊎ (start ≤ length xs) → ((first + count) < length xs) ⊎ (length xs ≤ first + count)
    → first ≡ min start (length xs) → after ≡ min (first + count) (length xs) → take (after - first) (drop first xs) ≡ take count (drop start xs)
taken_by xs start count first after (inl past) enough ef ea =
    let last : first ≡ length xs = omega (arith, ef, past) in
    let none : drop first xs ≡ [] = drop_of_length-le xs (omega (arith, last)) in
    let nothing : drop start xs ≡ [] = drop_of_length-le xs (omega (arith, past)) in
    rw (nothing, none) (empty (after - first) ∙ sym (empty count))
  where
    empty : {X : Type 0} (n : ℕ) → take {A = X} n [] ≡ []
    empty zero = refl
    empty (suc n) = refl
taken_by {X} xs start count first after (inr within) (inl enough) ef ea =
    let begins : first ≡ start = omega (arith, ef, within) in
    let many : after - first ≡ count = omega (arith, ea, enough) in
    ap (λ (n : ℕ). take n (drop first xs)) many ∙ ap (λ (n : ℕ). take count (drop n xs)) begins
taken_by xs start count first after (inr within) (inr few) ef ea =
    let begins : first ≡ start = omega (arith, ef, within) in
    let rest : after - first ≡ length xs - first = omega (arith, ea, few) in
    let long : length (drop first xs) ≤ count = omega (arith, length-drop first xs, few, begins, within) in
    ap (λ (n : ℕ). take n (drop first xs)) rest ∙ (take_rest xs first ∙ (sym (take_all count (drop first xs) long) ∙ ap (λ (n : ℕ). take count (drop n xs)) begins))

-- the items of a page, as those from its first place up to its last
pub taken : {X : Type 0} (xs : List X) (start count first after : ℕ) → first ≡ min start (length xs) → after ≡ min (first + count) (length xs) → take (after - first) (drop first xs) ≡ take count (drop start xs)
taken xs start count first after ef ea = taken_by xs start count first after (cases_lt (length xs) start) (cases_lt (first + count) (length xs)) ef ea

-- all items of a page
pub all_items : {X Y : Type 0} (f : X → List Y) (xs : List X) (page : Page) (first after : ℕ) → first ≡ min page.start (length xs) → after ≡ min (first + page.count) (length xs)
    → made f xs first after ≡ flat_map f (page_of page xs)
all_items f xs page first after ef ea = ap (flat_map f) (taken xs page.start page.count first after ef ea)

-- an item more was added to what was written
pub page_more : {X Y : Type 0} (f : X → List Y) (xs : List X) (first i : ℕ) (x : X) (old now new : List Y) → first ≤ i → slice_get xs i ≡ Some x
    → now ≡ old ++ made f xs first i → new ≡ now ++ f x → new ≡ old ++ made f xs first (i + 1)
page_more {Y = Y} f xs first i x old now new from at done more =
    more ∙ (ap (λ (t : List Y). t ++ f x) done ∙ (append_assoc old (made f xs first i) (f x) ∙ ap (λ (t : List Y). old ++ t) (sym (next_item f xs first i x from at))))

-- nothing was added yet
pub page_none : {X Y : Type 0} (f : X → List Y) (xs : List X) (first : ℕ) (old : List Y) → old ≡ old ++ made f xs first first
page_none {Y = Y} f xs first old = sym (append-nil old) ∙ ap (λ (t : List Y). old ++ t) (sym (none_yet f xs first))

-- the whole page was added
pub page_all : {X Y : Type 0} (f : X → List Y) (xs : List X) (page : Page) (first after i : ℕ) (old new : List Y) → first ≡ min page.start (length xs) → after ≡ min (first + page.count) (length xs)
    → after ≤ i → i ≤ after → new ≡ old ++ made f xs first i → new ≡ old ++ flat_map f (page_of page xs)
page_all {Y = Y} f xs page first after i old new ef ea most least done =
    let end : i ≡ after = omega (arith, most, least) in
    done ∙ ap (λ (t : List Y). old ++ t) (ap (made f xs first) end ∙ all_items f xs page first after ef ea)
