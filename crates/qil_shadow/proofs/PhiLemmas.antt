-- What phis get on an edge: what is found by the number of a phi is what the move of that number gives.
use Rattle.std.proofs.Common.{◌≡◌, ◌∙◌, sym, ap, subst, refl, ℕ, zero, suc, ◌+◌, ◌<◌, ◌≤◌, Bool, true, false, if◌then◌else◌, List, [], ◌∷◌, ◌++◌, length, map, drop, get_or, Option, Some, None, option_map, arith, append_assoc}
use Rattle.std.specs.Prelude.{slice_get, flat_map, filter, find}
use Rattle.std.specs.Str.{bytes_eq}
use Rattle.std.specs.List.{AllByRecursion}
use Rattle.std.proofs.lemmas.List.{append-nil, drop_all, length-map}
use Rattle.std.proofs.lemmas.Option.{slice_get-map, slice_get-get_or}
use Rattle.qil_tree.specs.declared.tree.Operand.{Operand}
use Rattle.qil_tree.specs.declared.tree.PhiSource.{PhiSource}
use Rattle.qil_tree.specs.declared.tree.Phi.{Phi}
use Rattle.qil_tree.specs.declared.tree.Block.{Block}
use Rattle.qil_tree.specs.declared.tree.Func.{Func}
use Rattle.qil_tree.specs.declared.tree.Program.{Program}
use Rattle.qil_semantics.specs.State.{Name, Frame}
use Rattle.qil_semantics.specs.Step.{phi_moves}
use Rattle.qil_semantics.specs.Step as step
use Rattle.qil_code.specs.declared.numbered.Slot.{Slot}
use Rattle.qil_code.specs.declared.numbered.BlockId.{BlockId}
use Rattle.qil_code.specs.declared.numbered.PhiMove.{PhiMove}
use Rattle.qil_code.specs.Numbered.{block_at, names_of, slot_in, move_of}
use Rattle.qil_code.proofs.Has.{has-among}
use Rattle.qil_shadow.specs.declared.origin.Origin.{Origin}
use Rattle.qil_shadow.specs.declared.suspicion.Place.{Place}
use Rattle.qil_shadow.specs.declared.shadow.Shadow.{Shadow}
use Rattle.qil_shadow.specs.Shadow.{Origins, with_origins}
use Rattle.qil_shadow.specs.Shadowed.{operand_origin, move_origin, enters_block, goes}
use Rattle.qil_shadow.specs.Spots.{origins_in}
use Rattle.qil_shadow.specs.Stack.{callers_of}
use Rattle.qil_shadow.specs.Calls.{LiveCalls, with_set}
use Rattle.qil_shadow.specs.Numbered.{object_named, frames_by}
use Rattle.qil_shadow.specs.Reads.{IsFor, innermost, HasSlots}
use Rattle.qil_shadow.specs.Kept.{Keeps, KeepsAll, KeepsButCalls}
use Rattle.qil_shadow.specs.Moves.{with_all}
use Rattle.qil_shadow.specs.Instructions.{named, IsAt}
use Rattle.qil_shadow.specs.Shapes.{shapes_of}
use Rattle.qil_shadow.specs.Phis.{source_value, phi_value, phi_between, phi_read, IsSingle, IsMove, moves_from, IsEdge, one_got, got_by, AreAlike}
use Rattle.qil_shadow.proofs.InstLemmas.{some_is}
use Rattle.qil_shadow.proofs.ObjectLemmas.{each_at}
use Rattle.qil_shadow.proofs.ParamLemmas.{drop_one, mapped_from}
use Rattle.qil_shadow.proofs.PassLemmas.{first_frames, slots_held, innermost_held, callers_held, objects_put}
use Rattle.qil_shadow.proofs.ShapeLemmas.{shapes_held}

-- ---- the only source for a label is the first

chosen_first : {X : Type 0} (b : Bool) (x : X) (kept : List X) (found : Option X) (y : X) (ys : List X) → (kept ≡ y ∷ ys → found ≡ Some y) → (if b then x ∷ kept else kept) ≡ y ∷ ys → (if b then Some x else found) ≡ Some y
chosen_first true x kept found y ys later e = ap (λ zs. Some (get_or zs 0 x)) e
chosen_first false x kept found y ys later e = later e

first_kept : {X : Type 0} (t : X → Bool) (xs : List X) (y : X) (ys : List X) → filter t xs ≡ y ∷ ys → find t xs ≡ Some y
first_kept t [] y ys e = absurd cc
first_kept t (x ∷ xs) y ys e = chosen_first (t x) x (filter t xs) (find t xs) y ys (λ f. first_kept t xs y ys f) e

mapped_first : {X Y : Type 0} (v : X → Y) (xs : List X) (y : Y) (ys : List Y) → map v xs ≡ y ∷ ys → (x : X) × (rest : List X) × (xs ≡ x ∷ rest) × (v x ≡ y)
mapped_first v [] y ys e = absurd cc
mapped_first v (x ∷ xs) y ys e = (x, xs, refl, ap (λ zs. get_or zs 0 y) e)

single_found : {A : Type 0} (left : Name) (phi : Phi A) (m : step.PhiMove) → phi_moves left phi ≡ m ∷ [] → source_value left phi ≡ Some m.value
single_found left phi m e =
    let t : PhiSource → Bool = λ q. bytes_eq q.label left in
    let v : PhiSource → step.PhiMove = λ q. record { target = phi.target; value = q.value } in
    let r = mapped_first v (filter t phi.sources) m [] e in
    ap (option_map (λ (q : PhiSource). q.value)) (first_kept t phi.sources r.0 r.1 r.2) ∙ ap (λ (z : step.PhiMove). Some z.value) r.3

-- so the move of a number is that of the phi of this number
single_at : {A : Type 0} (left : Name) (phis : List (Phi A)) (k : ℕ) (m : step.PhiMove) → AllByRecursion (IsSingle left) phis → slice_get (flat_map (phi_moves left) phis) k ≡ Some m → phi_value left (slice_get phis k) ≡ Some m.value
single_at left [] k m all at = absurd cc
single_at left (phi ∷ phis) zero m all at =
    let list : phi_moves left phi ++ flat_map (phi_moves left) phis ≡ all.0.0 ∷ flat_map (phi_moves left) phis = ap (λ ms. ms ++ flat_map (phi_moves left) phis) all.0.1 in
    let same : all.0.0 ≡ m = some_is all.0.0 m (ap (λ ms. slice_get ms 0) (sym list) ∙ at) in
    single_found left phi m (all.0.1 ∙ ap (λ z. z ∷ []) same)
single_at left (phi ∷ phis) (suc k) m all at =
    let list : phi_moves left phi ++ flat_map (phi_moves left) phis ≡ all.0.0 ∷ flat_map (phi_moves left) phis = ap (λ ms. ms ++ flat_map (phi_moves left) phis) all.0.1 in
    single_at left phis k m all.1 (ap (λ ms. slice_get ms (suc k)) (sym list) ∙ at)

-- ---- as the code looks for it

pub phi_there : {A : Type 0} (p : Program A) (place : Place) (to k : ℕ) (left target : Block A) (found : Option Operand) → Some left ≡ block_at p place.func.index place.block.index → Some target ≡ block_at p place.func.index to
    → found ≡ phi_value left.label (slice_get target.phis k) → found ≡ phi_read p place to k
phi_there p place to k left target found here there is = is ∙ (λ j. phi_between (here j) (there j) k)

pub no_left : {A : Type 0} (p : Program A) (place : Place) (to k : ℕ) → None ≡ block_at p place.func.index place.block.index → None ≡ phi_read p place to k
no_left {A} p place to k here = ap (λ (o : Option (Block A)). phi_between o (block_at p place.func.index to) k) here

pub no_target : {A : Type 0} (p : Program A) (place : Place) (to k : ℕ) (left : Block A) → Some left ≡ block_at p place.func.index place.block.index → None ≡ block_at p place.func.index to → None ≡ phi_read p place to k
no_target p place to k left here there = λ j. phi_between (here j) (there j) k

-- ---- one move

pub record HasGot {A : Type 0} (p : Program A) (place : Place) (to : BlockId) (left target : Block A) (t : Origins) (k : ℕ) (one : PhiMove) : Type 0 where
  pub value : Operand
  pub read : phi_read p place to.index k ≡ Some value
  pub is_for : IsFor p (names_of p place.func.index) value one.source
  pub got : slice_get (got_by p (names_of p place.func.index) t (moves_from left target)) k ≡ Some (one.target, operand_origin p t one.class value)

pub got_at : {A : Type 0} (p : Program A) (place : Place) (to : BlockId) (moves : List PhiMove) (func : Func A) (left target : Block A) (l : Name) (t : Origins) (k : ℕ) (one : PhiMove) → IsEdge p place to moves func left target l
    → slice_get moves k ≡ Some one → HasGot p place to left target t k one
got_at p place to moves func left target l t k one e at =
    let ns = names_of p place.func.index in
    let ms = moves_from left target in
    let found = mapped_from (move_of p ns) ms k one (slice_get ms k) refl (sym (slice_get-map (move_of p ns) ms k) ∙ ap (λ xs. slice_get xs k) (sym e.moves_are) ∙ at) in
    let known = each_at (IsMove p ns) ms k found.0 e.known found.1 in
    record {
      value = found.0.value;
      read = (λ j. phi_between (e.left_is j) (e.there j) k) ∙ single_at left.label target.phis k found.0 e.single found.1;
      is_for = record { number = ap (λ (m : PhiMove). m.source) (sym found.2); known = known.0 };
      got = slice_get-map (one_got p ns t) ms k
          ∙ ap (option_map (one_got p ns t)) found.1
          ∙ ap (λ (m : PhiMove). Some (m.target, operand_origin p t m.class found.0.value)) found.2;
    }

-- ---- all of them

one_item : {X : Type 0} (qs : List X) (q : X) → length qs ≡ 1 → slice_get qs 0 ≡ Some q → qs ≡ q ∷ []
one_item [] q count at = absurd cc
one_item (x ∷ []) q count at = ap (λ z. z ∷ []) (some_is x q at)
one_item (x ∷ (y ∷ qs)) q count at = absurd (omega (arith, count))

two_items : {X : Type 0} (qs : List X) (q r : X) → length qs ≡ 2 → slice_get qs 0 ≡ Some q → slice_get qs 1 ≡ Some r → qs ≡ q ∷ (r ∷ [])
two_items [] q r count at next = absurd cc
two_items (x ∷ []) q r count at next = absurd cc
two_items (x ∷ (y ∷ [])) q r count at next = λ j. some_is x q at j ∷ (some_is y r next j ∷ [])
two_items (x ∷ (y ∷ (z ∷ qs))) q r count at next = absurd (omega (arith, count))

pub one_listed : {X : Type 0} (xs : List X) (d : X) → length xs ≡ 1 → xs ≡ get_or xs 0 d ∷ []
one_listed [] d count = absurd cc
one_listed (x ∷ []) d count = refl
one_listed (x ∷ (y ∷ xs)) d count = absurd (omega (arith, count))

pub two_listed : {X : Type 0} (xs : List X) (d e : X) → length xs ≡ 2 → xs ≡ get_or xs 0 d ∷ (get_or xs 1 e ∷ [])
two_listed [] d e count = absurd cc
two_listed (x ∷ []) d e count = absurd cc
two_listed (x ∷ (y ∷ [])) d e count = refl
two_listed (x ∷ (y ∷ (z ∷ xs))) d e count = absurd (omega (arith, count))

no_item : {X : Type 0} (qs : List X) → length qs ≡ 0 → qs ≡ []
no_item [] count = refl
no_item (x ∷ qs) count = absurd (omega (arith, count))

many_got : {A : Type 0} (p : Program A) (place : Place) (to : BlockId) (moves : List PhiMove) (func : Func A) (left target : Block A) (l : Name) (t : Origins) → IsEdge p place to moves func left target l
    → length (got_by p (names_of p place.func.index) t (moves_from left target)) ≡ length moves
many_got p place to moves func left target l t e =
    let ns = names_of p place.func.index in
    length-map (moves_from left target) (one_got p ns t) ∙ sym (length-map (moves_from left target) (move_of p ns)) ∙ ap length (sym e.moves_are)

-- what the code says of the phi of a number
abbrev pub Gives : {A : Type 0} → Program A → Place → BlockId → Origins → ℕ → PhiMove → Origin → Type 0
Gives p place to t k one o = (a : Operand) → phi_read p place to.index k ≡ Some a → IsFor p (names_of p place.func.index) a one.source → o ≡ operand_origin p t one.class a

given_at : {A : Type 0} (p : Program A) (place : Place) (to : BlockId) (moves : List PhiMove) (func : Func A) (left target : Block A) (l : Name) (t : Origins) (k : ℕ) (one : PhiMove) (o : Origin) → IsEdge p place to moves func left target l
    → slice_get moves k ≡ Some one → Gives p place to t k one o → slice_get (got_by p (names_of p place.func.index) t (moves_from left target)) k ≡ Some (one.target, o)
given_at p place to moves func left target l t k one o e at gives =
    let h = got_at p place to moves func left target l t k one e at in
    h.got ∙ ap (λ m. Some (one.target, m)) (sym (gives h.value h.read h.is_for))

pub none_got : {A : Type 0} (p : Program A) (place : Place) (to : BlockId) (moves : List PhiMove) (func : Func A) (left target : Block A) (l : Name) (t : Origins) (was : LiveCalls) → moves ≡ [] → IsEdge p place to moves func left target l
    → was ≡ with_all (got_by p (names_of p place.func.index) t (moves_from left target)) was
none_got p place to moves func left target l t was none e =
    let all = no_item (got_by p (names_of p place.func.index) t (moves_from left target)) (many_got p place to moves func left target l t e ∙ ap length none) in
    ap (λ qs. with_all qs was) (sym all)

pub only_got : {A : Type 0} (p : Program A) (place : Place) (to : BlockId) (only : PhiMove) (func : Func A) (left target : Block A) (l : Name) (t : Origins) (o : Origin) (was now : LiveCalls) → IsEdge p place to (only ∷ []) func left target l
    → Gives p place to t 0 only o → now ≡ with_set was only.target o → now ≡ with_all (got_by p (names_of p place.func.index) t (moves_from left target)) was
only_got p place to only func left target l t o was now e gives set =
    let all = one_item (got_by p (names_of p place.func.index) t (moves_from left target)) (only.target, o) (many_got p place to (only ∷ []) func left target l t e)
    (given_at p place to (only ∷ []) func left target l t 0 only o e refl gives) in
    set ∙ ap (λ qs. with_all qs was) (sym all)

pub both_got : {A : Type 0} (p : Program A) (place : Place) (to : BlockId) (one other : PhiMove) (func : Func A) (left target : Block A) (l : Name) (t : Origins) (o q : Origin) (was mid now : LiveCalls)
    → IsEdge p place to (one ∷ (other ∷ [])) func left target l → Gives p place to t 0 one o → Gives p place to t 1 other q → mid ≡ with_set was one.target o → now ≡ with_set mid other.target q
    → now ≡ with_all (got_by p (names_of p place.func.index) t (moves_from left target)) was
both_got p place to one other func left target l t o q was mid now e gives gives_other set set_other =
    let moves = one ∷ (other ∷ []) in
    let all = two_items (got_by p (names_of p place.func.index) t (moves_from left target)) (one.target, o) (other.target, q) (many_got p place to moves func left target l t e)
    (given_at p place to moves func left target l t 0 one o e refl gives) (given_at p place to moves func left target l t 1 other q e refl gives_other) in
    set_other ∙ (λ j. with_set (set j) other.target q) ∙ ap (λ qs. with_all qs was) (sym all)

-- ---- one after the other

pub got_more : {A : Type 0} (p : Program A) (place : Place) (to : BlockId) (moves : List PhiMove) (func : Func A) (left target : Block A) (l : Name) (was mid : Shadow A) (so_far now : List (Slot × Origin)) (k : ℕ) (d : PhiMove)
    → IsEdge p place to moves func left target l → k < length moves → Keeps was mid
    → ((a : Operand) → phi_read p place to.index k ≡ Some a → IsFor p (names_of p place.func.index) a (get_or moves k d).source
    → now ≡ so_far ++ ((get_or moves k d).target, operand_origin p (innermost p place.func.index mid.calls.calls) (get_or moves k d).class a) ∷ [])
    → so_far ++ drop k (got_by p (names_of p place.func.index) (innermost p place.func.index was.calls.calls) (moves_from left target))
    ≡ got_by p (names_of p place.func.index) (innermost p place.func.index was.calls.calls) (moves_from left target)
    → now ++ drop (k + 1) (got_by p (names_of p place.func.index) (innermost p place.func.index was.calls.calls) (moves_from left target))
    ≡ got_by p (names_of p place.func.index) (innermost p place.func.index was.calls.calls) (moves_from left target)
got_more p place to moves func left target l was mid so_far now k d e below keeps one all =
    let t = innermost p place.func.index was.calls.calls in
    let qs = got_by p (names_of p place.func.index) t (moves_from left target) in
    let x = get_or moves k d in
    let h = got_at p place to moves func left target l t k x e (slice_get-get_or moves k d below) in
    let q : Slot × Origin = (x.target, operand_origin p t x.class h.value) in
    let gathered : now ≡ so_far ++ q ∷ [] =
    one h.value h.read h.is_for ∙ (λ j. so_far ++ (x.target, operand_origin p (innermost p place.func.index (keeps.calls_are j).calls) x.class h.value) ∷ []) in
    ap (λ ms. ms ++ drop (k + 1) qs) gathered
    ∙ append_assoc so_far (q ∷ []) (drop (k + 1) qs)
    ∙ ap (λ ms. so_far ++ ms) (sym (drop_one qs k q h.got))
    ∙ all

pub got_all : {A : Type 0} (p : Program A) (place : Place) (to : BlockId) (moves : List PhiMove) (func : Func A) (left target : Block A) (l : Name) (t : Origins) (was mid now : LiveCalls) (so_far : List (Slot × Origin)) (k : ℕ)
    → IsEdge p place to moves func left target l → length moves ≤ k → so_far ++ drop k (got_by p (names_of p place.func.index) t (moves_from left target)) ≡ got_by p (names_of p place.func.index) t (moves_from left target)
    → mid ≡ was → now ≡ with_all so_far mid → now ≡ with_all (got_by p (names_of p place.func.index) t (moves_from left target)) was
got_all p place to moves func left target l t was mid now so_far k e past all same put =
    let qs = got_by p (names_of p place.func.index) t (moves_from left target) in
    let count = many_got p place to moves func left target l t e in
    let none : drop k qs ≡ [] = drop_all k qs (omega (arith, count, past)) in
    let gathered : so_far ≡ qs = sym (append-nil so_far) ∙ ap (λ ms. so_far ++ ms) (sym none) ∙ all in
    put ∙ (λ j. with_all (gathered j) (same j))

-- ---- temporaries alone are set

pub alike_set : (was now : LiveCalls) (s : Slot) (m : Origin) → now ≡ with_set was s m → AreAlike was now
alike_set was now s m set = record { shapes_are = (λ j. shapes_of (set j).calls) ∙ shapes_held s m was.calls; objects_are = λ j. (set j).objects; top_is = λ j. (set j).top }

pub alike_on : (was mid now : LiveCalls) → AreAlike was mid → AreAlike mid now → AreAlike was now
alike_on was mid now k l = record { shapes_are = l.shapes_are ∙ k.shapes_are; objects_are = l.objects_are ∙ k.objects_are; top_is = l.top_is ∙ k.top_is }

alike_by : (qs : List (Slot × Origin)) (was : LiveCalls) → AreAlike was (with_all qs was)
alike_by [] was = record { shapes_are = refl; objects_are = refl; top_is = refl }
alike_by (q ∷ qs) was = alike_on was (with_set was q.0 q.1) (with_all qs (with_set was q.0 q.1)) (alike_set was (with_set was q.0 q.1) q.0 q.1 refl) (alike_by qs (with_set was q.0 q.1))

pub alike_all : (qs : List (Slot × Origin)) (was mid now : LiveCalls) → mid ≡ was → now ≡ with_all qs mid → AreAlike was now
alike_all qs was mid now same put = subst (AreAlike was) (sym (put ∙ ap (with_all qs) same)) (alike_by qs was)

-- ---- by names

put_got : {A : Type 0} (p : Program A) (i : ℕ) (fs : List ℕ) (t : Origins) (ms : List step.PhiMove) (was : LiveCalls) → HasSlots p i was.calls → AllByRecursion (IsMove p (names_of p i)) ms
    → frames_by p (i ∷ fs) (with_all (got_by p (names_of p i) t ms) was).calls ≡ with_origins (innermost p i was.calls) (map (move_origin p t) ms) ∷ frames_by p fs (callers_of was.calls)
put_got p i fs t [] was slots known = first_frames p i fs was.calls slots
put_got p i fs t (m ∷ ms) was slots known =
    let s = slot_in (names_of p i) m.target.name in
    let o = operand_origin p t m.target.class m.value in
    put_got p i fs t ms (with_set was s o) (slots_held p i s o was.calls slots) known.1
    ∙ (λ j. with_origins (innermost_held p i m.target.name o was.calls slots (has-among (names_of p i) m.target.name known.0.1.0 known.0.1.1) j) (map (move_origin p t) ms) ∷ frames_by p fs (callers_held s o was.calls j))

pub went_named : {A : Type 0} (p : Program A) (place : Place) (to : BlockId) (moves : List PhiMove) (func : Func A) (left target : Block A) (l : Name) (f : Frame) (fs : List ℕ) (was now : Shadow A)
    → IsEdge p place to moves func left target l → f.label ≡ left.label → IsAt p place was
    → now.calls ≡ with_all (got_by p (names_of p place.func.index) (innermost p place.func.index was.calls.calls) (moves_from left target)) was.calls → KeepsButCalls was now
    → named p (place.func.index ∷ fs) now ≡ goes p f (named p (place.func.index ∷ fs) was) (innermost p place.func.index was.calls.calls) (frames_by p fs (callers_of was.calls.calls)) func l
went_named {A} p place to moves func left target l f fs was now e label at calls keeps =
    let i = place.func.index in
    let t = innermost p i was.calls.calls in
    let ts = frames_by p fs (callers_of was.calls.calls) in
    let sh = named p (i ∷ fs) was in
    let qs = got_by p (names_of p i) t (moves_from left target) in
    let frames : frames_by p (i ∷ fs) now.calls.calls ≡ with_origins t (map (move_origin p t) (moves_from left target)) ∷ ts =
    (λ j. frames_by p (i ∷ fs) (calls j).calls) ∙ put_got p i fs t (moves_from left target) was.calls at.slots e.known in
    let objects : now.calls.objects.objects ≡ was.calls.objects.objects = ap (λ (l : LiveCalls). l.objects.objects) calls ∙ ap (λ t. t.objects) (objects_put qs was.calls) in
    let base : named p (i ∷ fs) now ≡ record sh { frames = with_origins t (map (move_origin p t) (flat_map (phi_moves left.label) target.phis)) ∷ ts } =
    λ j. record { frames = frames j; bytes = origins_in (keeps.memory_is j); objects = map (object_named p) (objects j); position = keeps.position_is j } in
    base
    ∙ (λ j. record sh { frames = with_origins t (map (move_origin p t) (flat_map (phi_moves (sym label j)) target.phis)) ∷ ts })
    ∙ ap (λ (o : Option (Block A)). enters_block p f sh t ts o) (sym e.found)
