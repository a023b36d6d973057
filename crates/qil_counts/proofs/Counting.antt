-- The counts along moves: none before the first, and after each one more at the place of the state from which it was made.
use Rattle.std.proofs.Common.{◌≡◌, refl, sym, ap, ◌∙◌, ℕ, ◌+◌, ◌<◌, ◌≤◌, ◌^◌, Bool, true, false, cond, List, [], ◌∷◌, ◌++◌, length, length-append, Option, Some, None, arith}
use Rattle.std.specs.Prelude.{flat_map, if◌then◌else◌, map, option_map, slice_get}
use Rattle.std.specs.List.{filter, range_with_len}
use Rattle.std.proofs.lemmas.List.Elements.{filter-append}
use Rattle.std.proofs.lemmas.List.FromFn.{length-map-range_with_len, map-range_with_len_more}
use Rattle.std.proofs.lemmas.Option.{slice_get-map}
use Rattle.qil_tree.specs.declared.tree.Block.{Block}
use Rattle.qil_tree.specs.declared.tree.Func.{Func}
use Rattle.qil_tree.specs.declared.tree.Program.{Program}
use Rattle.qil_semantics.specs.State.{State}
use Rattle.qil_semantics.specs.Stops.{is_at}
use Rattle.qil_semantics.specs.Timeline.{Timeline, moved}
use Rattle.qil_code.specs.Numbered.{func_at, block_in, block_at}
use Rattle.qil_counts.specs.declared.count.CodePlace.{CodePlace}
use Rattle.qil_counts.specs.declared.count.Count.{Count}
use Rattle.qil_counts.specs.Counts.{IsHere, block_count, block_places, count_of, counts_by, func_places, is_met, is_there, met_by, named_place, one_more, place_at, places, states_by, unmet_all}
use Rattle.qil_counts.specs.Rows.{AreFew}

-- ---- the places are those of blocks of the program

record HasPlace {A : Type 0} (p : Program A) (place : CodePlace) : Type 0 where
  func : Func A
  block : Block A
  func_is : func_at p place.func.index ≡ Some func
  block_is : block_at p place.func.index place.block.index ≡ Some block

abbrev HaveAll : {A : Type 0} → Program A → List CodePlace → Type 0
HaveAll p [] = Unit {0}
HaveAll p (q ∷ qs) = HasPlace p q × HaveAll p qs

have_both : {A : Type 0} (p : Program A) (xs ys : List CodePlace) → HaveAll p xs → HaveAll p ys → HaveAll p (xs ++ ys)
have_both p [] ys hx hy = hy
have_both p (x ∷ xs) ys hx hy = (hx.0, have_both p xs ys hx.1 hy)

have_pieces : {A : Type 0} (p : Program A) (g : ℕ → List CodePlace) → ((n : ℕ) → HaveAll p (g n)) → (ns : List ℕ) → HaveAll p (flat_map g ns)
have_pieces p g each [] = tt
have_pieces p g each (n ∷ ns) = have_both p (g n) (flat_map g ns) (each n) (have_pieces p g each ns)

have_insts : {A : Type 0} (p : Program A) (f b : ℕ) (func : Func A) (block : Block A) → func_at p f ≡ Some func → block_at p f b ≡ Some block → (ns : List ℕ) → HaveAll p (map (place_at f b) ns)
have_insts p f b func block ef eb [] = tt
have_insts p f b func block ef eb (n ∷ ns) = (record { func = func; block = block; func_is = ef; block_is = eb }, have_insts p f b func block ef eb ns)

have_block : {A : Type 0} (p : Program A) (f b : ℕ) (of : Option (Func A)) (ob : Option (Block A)) → func_at p f ≡ of → block_at p f b ≡ ob → block_in of b ≡ ob → HaveAll p (block_places f b ob)
have_block p f b of None ef eb e = tt
have_block p f b None (Some block) ef eb e = absurd cc
have_block p f b (Some func) (Some block) ef eb e = have_insts p f b func block ef eb (range_with_len 0 (length block.insts + 1))

have_func : {A : Type 0} (p : Program A) (f : ℕ) → HaveAll p (func_places p f)
have_func p f = have_pieces p (λ b. block_places f b (block_at p f b)) (λ b. have_block p f b (func_at p f) (block_at p f b) refl refl refl) (range_with_len 0 (block_count (func_at p f)))

have_places : {A : Type 0} (p : Program A) → HaveAll p (places p)
unfolding places
have_places p = have_pieces p (func_places p) (have_func p) (range_with_len 0 (length p.funcs))

-- ---- one state more

counted_more : (t : State → Bool) (states : List State) (s : State) (b : Bool) → b ≡ t s → length (filter t (states ++ s ∷ [])) ≡ (if b then length (filter t states) + 1 else length (filter t states))
counted_more t states s true e =
    ap length (filter-append t states (s ∷ [])) ∙ length-append (filter t states) (filter t (s ∷ [])) ∙ ap (λ x. length (filter t states) + length (cond x (s ∷ []) [])) (sym e)
counted_more t states s false e =
    ap length (filter-append t states (s ∷ [])) ∙ length-append (filter t states) (filter t (s ∷ [])) ∙ ap (λ x. length (filter t states) + length (cond x (s ∷ []) [])) (sym e) ∙ omega arith

one_by : (t : State → Bool) (states : List State) (s : State) (q : CodePlace) (b : Bool) (one : Count) → one ≡ record { place = q; count = length (filter t states) } → b ≡ t s
    → (if b then record one { count = one.count + 1 } else one) ≡ record { place = q; count = length (filter t (states ++ s ∷ [])) }
one_by t states s q true one is e = λ i. record { place = (is i).place; count = ((λ j. (is j).count + 1) ∙ sym (counted_more t states s true e)) i }
one_by t states s q false one is e = is ∙ ap (λ n. record { place = q; count = n }) (sym (counted_more t states s false e))

all_more : {A : Type 0} (p : Program A) (states : List State) (s : State) (here : Option CodePlace) → IsHere p s here → (qs : List CodePlace) → HaveAll p qs
    → map (one_more here) (map (count_of p states) qs) ≡ map (count_of p (states ++ s ∷ [])) qs
all_more p states s here is [] has = refl
all_more {A} p states s here is (q ∷ qs) has =
    let one = one_by (is_at (named_place p q)) states s q (is_there here q) (count_of p states q) refl (is q has.0.func has.0.block has.0.func_is has.0.block_is) in
    let rest = all_more p states s here is qs has.1 in
    λ i. one i ∷ rest i

-- ---- along moves

pub counts_none : {A : Type 0} (p : Program A) (t : Timeline) → unmet_all (places p) ≡ counts_by p t 0
unfolding counts_by
counts_none p t = refl

states_more : {A : Type 0} (p : Program A) (t : Timeline) (k : ℕ) → states_by p t (k + 1) ≡ states_by p t k ++ (moved p k t).now ∷ []
states_more p t k = map-range_with_len_more (λ j. (moved p j t).now) 0 k k (omega arith)

pub counts_more : {A : Type 0} (p : Program A) (t : Timeline) (k : ℕ) (s : State) (here : Option CodePlace) → s ≡ (moved p k t).now → IsHere p s here → map (one_more here) (counts_by p t k) ≡ counts_by p t (k + 1)
unfolding counts_by
counts_more {A} p t k s here at is =
    all_more p (states_by p t k) s here is (places p) (have_places p)
    ∙ ap (λ (states : List State). map (count_of p states) (places p)) (ap (λ (x : State). states_by p t k ++ x ∷ []) at ∙ sym (states_more p t k))

-- ---- how many there are

one_shorter : {X : Type 0} (t : X → Bool) (x : X) (xs : List X) (b : Bool) → t x ≡ b → length (filter t xs) ≤ length xs → length (filter t (x ∷ xs)) ≤ length (x ∷ xs)
one_shorter t x xs true e deep = rw e (omega (arith, deep))
one_shorter t x xs false e deep = rw e (omega (arith, deep))

shorter : {X : Type 0} (t : X → Bool) (xs : List X) → length (filter t xs) ≤ length xs
shorter t [] = omega arith
shorter t (x ∷ xs) = one_shorter t x xs (t x) refl (shorter t xs)

few_at : {A : Type 0} (p : Program A) (states : List State) (k : ℕ) (one : Count) (o : Option CodePlace) → length states ≤ k → option_map (count_of p states) o ≡ Some one → one.count ≤ k
few_at p states k one None le e = absurd cc
few_at p states k one (Some q) le e =
    let is : one ≡ count_of p states q = cc in
    let less = shorter (is_at (named_place p q)) states in
    let count : one.count ≡ length (filter (is_at (named_place p q)) states) = ap (λ (x : Count). x.count) is in
    omega (arith, less, count, le)

pub counts_few : {A : Type 0} (p : Program A) (t : Timeline) (k : ℕ) → k < 2 ^ 63 → AreFew (counts_by p t k)
unfolding counts_by
counts_few {A} p t k small i one there =
    let long : length (states_by p t k) ≡ k = length-map-range_with_len (λ j. (moved p j t).now) 0 k in
    let le = few_at p (states_by p t k) k one (slice_get (places p) i) (omega (arith, long)) (sym (slice_get-map (count_of p (states_by p t k)) (places p) i) ∙ there) in
    omega (arith, le, small)

pub none_met : (qs : List CodePlace) → filter is_met (unmet_all qs) ≡ []
none_met [] = refl
none_met (q ∷ qs) = none_met qs

pub met_none : {A : Type 0} (p : Program A) (t : Timeline) → [] ≡ met_by p t 0
met_none p t = sym (ap (filter is_met) (sym (counts_none p t)) ∙ none_met (places p))
