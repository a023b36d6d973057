-- One counter more, one block more and one function more; and how each counter is found.
use Rattle.std.proofs.Common.{◌≡◌, refl, sym, ap, ◌∙◌, ℕ, zero, suc, ◌+◌, ◌<◌, ◌≤◌, ◌⊎◌, inl, inr, List, [], ◌∷◌, ◌++◌, length, Option, Some, None, arith, append_assoc}
use Rattle.std.specs.Prelude.{flat_map, map, option_map, slice_get}
use Rattle.std.specs.List.{range_with_len}
use Rattle.std.specs.Option.{option_and_then}
use Rattle.std.proofs.lemmas.List.{flat_map_more, map-append, map_push}
use Rattle.std.proofs.lemmas.List.FromFn.{map-range_with_len_more, length-map-range_with_len, get_or-map-range_with_len}
use Rattle.std.proofs.lemmas.Option.{slice_get-map, slice_get_within, get_or_from_slice_get}
use Rattle.qil_tree.specs.declared.tree.Block.{Block}
use Rattle.qil_tree.specs.declared.tree.Func.{Func}
use Rattle.qil_tree.specs.declared.tree.Program.{Program}
use Rattle.qil_code.specs.Numbered.{func_at, block_in, block_at}
use Rattle.qil_counts.specs.declared.count.CodePlace.{CodePlace}
use Rattle.qil_counts.specs.declared.count.Count.{Count}
use Rattle.qil_counts.specs.Counts.{block_count, block_places, func_places, place_at, places, unmet, unmet_all}
use Rattle.qil_counts.specs.Rows.{AreNumbered, number_at, number_in_block, places_at}

-- ---- what is at an index of two lists that are put together

found_before : {X : Type 0} (xs ys : List X) (i : ℕ) (x : X) → slice_get xs i ≡ Some x → slice_get (xs ++ ys) i ≡ Some x
found_before [] ys i x there = absurd cc
found_before (y ∷ xs) ys zero x there = there
found_before (y ∷ xs) ys (suc i) x there = found_before xs ys i x there

found_last : {X : Type 0} (xs : List X) (y : X) → slice_get (xs ++ y ∷ []) (length xs) ≡ Some y
found_last [] y = refl
found_last (x ∷ xs) y = found_last xs y

found_in : {X : Type 0} (xs ys : List X) (i : ℕ) (x : X) → slice_get (xs ++ ys) i ≡ Some x → (slice_get xs i ≡ Some x) ⊎ ((j : ℕ) × (i ≡ length xs + j) × (slice_get ys j ≡ Some x))
found_in [] ys i x there = inr (i, omega arith, there)
found_in (y ∷ xs) ys zero x there = inl there
found_in (y ∷ xs) ys (suc i) x there = further (found_in xs ys i x there)
  where
    further : (slice_get xs i ≡ Some x) ⊎ ((j : ℕ) × (i ≡ length xs + j) × (slice_get ys j ≡ Some x)) → (slice_get (y ∷ xs) (suc i) ≡ Some x) ⊎ ((j : ℕ) × (suc i ≡ length (y ∷ xs) + j) × (slice_get ys j ≡ Some x))
    further (inl f) = inl f
    further (inr f) = inr (f.0, omega (arith, f.1), f.2)

-- ---- one more of them

pub more_places : (f b i j : ℕ) (old before after : List Count) → i ≡ j → before ≡ old ++ unmet_all (places_at f b i) → after ≡ before ++ unmet (place_at f b j) ∷ [] → after ≡ old ++ unmet_all (places_at f b (j + 1))
more_places f b i j old before after same is more =
    more ∙ ap (λ l. l ++ unmet (place_at f b j) ∷ []) (is ∙ ap (λ n. old ++ unmet_all (places_at f b n)) same)
    ∙ append_assoc old (unmet_all (places_at f b j)) (unmet (place_at f b j) ∷ [])
    ∙ ap (λ l. old ++ l) (sym (ap unmet_all (map-range_with_len_more (place_at f b) 0 j j (omega arith)) ∙ map_push unmet (places_at f b j) (place_at f b j)))

-- a piece more, of pieces by number
pub pieces_more : (g : ℕ → List CodePlace) (n m : ℕ) (piece : List CodePlace) (begun old new : List Count) → g n ≡ piece → n + 1 ≡ m
    → old ≡ begun ++ unmet_all (flat_map g (range_with_len 0 n)) → new ≡ old ++ unmet_all piece → new ≡ begun ++ unmet_all (flat_map g (range_with_len 0 m))
pieces_more g n m piece begun old new here next is more =
    let front : List CodePlace = flat_map g (range_with_len 0 n) in
    let numbers : range_with_len 0 (n + 1) ≡ range_with_len 0 n ++ n ∷ [] = numbers_more n in
    let all : front ++ piece ≡ flat_map g (range_with_len 0 (n + 1)) =
    ap (λ l. front ++ l) (sym here) ∙ flat_map_more g [] (range_with_len 0 n) n ∙ ap (flat_map g) (sym numbers) in
    more ∙ ap (λ l. l ++ unmet_all piece) is ∙ append_assoc begun (unmet_all front) (unmet_all piece)
    ∙ ap (λ l. begun ++ l) (sym (map-append unmet front piece) ∙ ap unmet_all (all ∙ ap (λ k. flat_map g (range_with_len 0 k)) next))
  where
    same_numbers : (xs : List ℕ) → map (λ i. i) xs ≡ xs
    same_numbers [] = refl
    same_numbers (x ∷ xs) = ap (λ l. x ∷ l) (same_numbers xs)

    numbers_more : (n : ℕ) → range_with_len 0 (n + 1) ≡ range_with_len 0 n ++ n ∷ []
    numbers_more n = sym (same_numbers (range_with_len 0 (n + 1))) ∙ map-range_with_len_more (λ i. i) 0 n n (omega arith) ∙ ap (λ l. l ++ n ∷ []) (same_numbers (range_with_len 0 n))

pub block_more : {A : Type 0} (p : Program A) (f b m n : ℕ) (block : Block A) (begun old new : List Count) → block_at p f b ≡ Some block → n ≡ length block.insts → b + 1 ≡ m
    → old ≡ begun ++ unmet_all (flat_map (λ i. block_places f i (block_at p f i)) (range_with_len 0 b)) → new ≡ old ++ unmet_all (places_at f b (n + 1))
    → new ≡ begun ++ unmet_all (flat_map (λ i. block_places f i (block_at p f i)) (range_with_len 0 m))
block_more {A} p f b m n block begun old new at count next is more =
    pieces_more (λ i. block_places f i (block_at p f i)) b m (places_at f b (n + 1)) begun old new
    (ap (block_places f b) at ∙ ap (λ k. places_at f b (k + 1)) (sym count)) next is more

-- ---- the last of them

none_past : {X : Type 0} (xs : List X) (i : ℕ) → slice_get xs i ≡ None → length xs ≤ i
none_past [] i e = omega arith
none_past (x ∷ xs) zero e = absurd cc
none_past (x ∷ xs) (suc i) e = let le = none_past xs i e in omega (arith, le)

block_past : {A : Type 0} (o : Option (Func A)) (b : ℕ) → block_in o b ≡ None → block_count o ≤ b
block_past None b e = omega arith
block_past (Some func) b e = none_past func.blocks b e

block_within : {A : Type 0} (o : Option (Func A)) (b : ℕ) (block : Block A) → block_in o b ≡ Some block → b < block_count o
block_within None b block e = absurd cc
block_within (Some func) b block e = slice_get_within func.blocks b block e

pub block_before : {A : Type 0} (p : Program A) (f b : ℕ) (block : Block A) → block_at p f b ≡ Some block → b + 1 ≤ block_count (func_at p f)
block_before p f b block e = let lt = block_within (func_at p f) b block e in omega (arith, lt)

pub blocks_all : {A : Type 0} (p : Program A) (f b : ℕ) (begun new : List Count) → block_at p f b ≡ None → b ≤ block_count (func_at p f)
    → new ≡ begun ++ unmet_all (flat_map (λ i. block_places f i (block_at p f i)) (range_with_len 0 b)) → new ≡ begun ++ unmet_all (func_places p f)
blocks_all {A} p f b begun new none within is =
    let le : block_count (func_at p f) ≤ b = block_past (func_at p f) b none in
    let all : b ≡ block_count (func_at p f) = omega (arith, le, within) in
    is ∙ ap (λ n. begun ++ unmet_all (flat_map (λ i. block_places f i (block_at p f i)) (range_with_len 0 n))) all

pub places_all : {A : Type 0} (p : Program A) (n : ℕ) (counts : List Count) → n ≡ length p.funcs → counts ≡ unmet_all (flat_map (func_places p) (range_with_len 0 n)) → counts ≡ unmet_all (places p)
unfolding places
places_all {A} p n counts all is = is ∙ ap (λ m. unmet_all (flat_map (func_places p) (range_with_len 0 m))) all

-- ---- how each is found

in_more : (firsts ys : List ℕ) (k i m : ℕ) (o : Option ℕ) → slice_get firsts m ≡ o → number_in_block k o ≡ Some i → number_in_block k (slice_get (firsts ++ ys) m) ≡ Some i
in_more firsts ys k i m None e h = absurd cc
in_more firsts ys k i m (Some n) e h = ap (number_in_block k) (found_before firsts ys m n e) ∙ h

firsts_by : (firsts ys : List ℕ) (q : CodePlace) (i : ℕ) (o : Option ℕ) → option_and_then (λ begin. number_in_block q.index (slice_get firsts (begin + q.block.index))) o ≡ Some i
    → option_and_then (λ begin. number_in_block q.index (slice_get (firsts ++ ys) (begin + q.block.index))) o ≡ Some i
firsts_by firsts ys q i None h = absurd cc
firsts_by firsts ys q i (Some begin) h = in_more firsts ys q.index i (begin + q.block.index) (slice_get firsts (begin + q.block.index)) refl h

blocks_by : (blocks ys firsts : List ℕ) (q : CodePlace) (i : ℕ) (o : Option ℕ) → slice_get blocks q.func.index ≡ o
    → option_and_then (λ begin. number_in_block q.index (slice_get firsts (begin + q.block.index))) o ≡ Some i → number_at (blocks ++ ys) firsts q ≡ Some i
blocks_by blocks ys firsts q i None e h = absurd cc
blocks_by blocks ys firsts q i (Some begin) e h =
    ap (λ o. option_and_then (λ n. number_in_block q.index (slice_get firsts (n + q.block.index))) o) (found_before blocks ys q.func.index begin e) ∙ h

-- a function more, whose blocks are still to come
pub func_numbered : (blocks blocks' firsts : List ℕ) (begin : ℕ) (counts : List Count) → AreNumbered blocks firsts counts → blocks' ≡ blocks ++ begin ∷ [] → AreNumbered blocks' firsts counts
func_numbered blocks blocks' firsts begin counts are more i one there =
    ap (λ l. number_at l firsts one.place) more ∙ blocks_by blocks (begin ∷ []) firsts one.place i (slice_get blocks one.place.func.index) refl (are i one there)

-- a counter of a block is of the place with its number there
unmet_at : (f b n j : ℕ) (one : Count) → slice_get (unmet_all (places_at f b n)) j ≡ Some one → one ≡ unmet (place_at f b j)
unmet_at f b n j one there = at (slice_get (places_at f b n) j) refl (sym (slice_get-map unmet (places_at f b n) j) ∙ there)
  where
    place_is : (q : CodePlace) → slice_get (places_at f b n) j ≡ Some q → q ≡ place_at f b j
    place_is q e =
        let lt = slice_get_within (places_at f b n) j q e in
        let long = length-map-range_with_len (place_at f b) 0 n in
        sym (get_or_from_slice_get (places_at f b n) j q q e) ∙ get_or-map-range_with_len (place_at f b) 0 n j j q (omega (arith, lt, long)) (omega arith)

    at : (o : Option CodePlace) → slice_get (places_at f b n) j ≡ o → option_map unmet o ≡ Some one → one ≡ unmet (place_at f b j)
    at None e h = absurd cc
    at (Some q) e h = let same : one ≡ unmet q = cc in same ∙ ap unmet (place_is q e)

block_found : (blocks firsts : List ℕ) (f b begin j first : ℕ) → slice_get blocks f ≡ Some begin → begin + b ≡ length firsts → number_at blocks (firsts ++ first ∷ []) (place_at f b j) ≡ Some (first + j)
block_found blocks firsts f b begin j first at next =
    ap (λ o. option_and_then (λ n. number_in_block j (slice_get (firsts ++ first ∷ []) (n + b))) o) at
    ∙ ap (λ m. number_in_block j (slice_get (firsts ++ first ∷ []) m)) next
    ∙ ap (number_in_block j) (found_last firsts first)

pub block_numbered : (blocks blocks' firsts firsts' : List ℕ) (f b begin n : ℕ) (old new : List Count) → AreNumbered blocks firsts old → slice_get blocks f ≡ Some begin → begin + b ≡ length firsts
    → blocks' ≡ blocks → firsts' ≡ firsts ++ length old ∷ [] → new ≡ old ++ unmet_all (places_at f b n) → AreNumbered blocks' firsts' new
block_numbered blocks blocks' firsts firsts' f b begin n old new are at next same grown more i one there =
    (λ k. number_at (same k) (grown k) one.place) ∙ by_place (found_in old (unmet_all (places_at f b n)) i one (ap (λ l. slice_get l i) (sym more) ∙ there))
  where
    by_place : (slice_get old i ≡ Some one) ⊎ ((j : ℕ) × (i ≡ length old + j) × (slice_get (unmet_all (places_at f b n)) j ≡ Some one)) → number_at blocks (firsts ++ length old ∷ []) one.place ≡ Some i
    by_place (inl before) = firsts_by firsts (length old ∷ []) one.place i (slice_get blocks one.place.func.index) (are i one before)
    by_place (inr behind) =
        ap (λ (x : Count). number_at blocks (firsts ++ length old ∷ []) x.place) (unmet_at f b n behind.0 one behind.2)
        ∙ block_found blocks firsts f b begin behind.0 (length old) at next ∙ ap (λ k. Some k) (sym behind.1)

pub none_numbered : (blocks firsts : List ℕ) (counts : List Count) → counts ≡ [] → AreNumbered blocks firsts counts
none_numbered blocks firsts counts none i one there = absurd (let gone : slice_get [] i ≡ Some one = ap (λ l. slice_get l i) (sym none) ∙ there in cc)

-- the block of a function that was just added comes next
pub func_begins : (blocks blocks' : List ℕ) (f begin : ℕ) → length blocks ≡ f → blocks' ≡ blocks ++ begin ∷ [] → slice_get blocks' f ≡ Some begin
func_begins blocks blocks' f begin at more = ap (λ l. slice_get l f) more ∙ ap (slice_get (blocks ++ begin ∷ [])) (sym at) ∙ found_last blocks begin
