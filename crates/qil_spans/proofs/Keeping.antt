-- What is kept of frames along moves, one move more, and all that is told of it at the end.
use Rattle.std.proofs.Common.{◌≡◌, refl, sym, ap, ◌∙◌, subst, ℕ, zero, suc, ◌+◌, ◌-◌, ◌<◌, ◌≤◌, ◌⊎◌, inl, inr, Bool, true, false, List, [], ◌∷◌, ◌++◌, length, length-append, take, Option, Some, None, arith, append_assoc}
use Rattle.std.specs.Prelude.{flat_map, if◌then◌else◌, map, nat_lt, slice_get}
use Rattle.std.specs.List.{filter, range_with_len}
use Rattle.std.proofs.lemmas.Bool.{cases_lt, cond-true, cond-false, le-ltb, lt-ltb}
use Rattle.std.proofs.lemmas.List.{append-nil, flat_map_more, length-take-le}
use Rattle.std.proofs.lemmas.List.Elements.{filter-append}
use Rattle.std.proofs.lemmas.List.FromFn.{map-range_with_len_more}
use Rattle.qil_tree.specs.declared.tree.Program.{Program}
use Rattle.qil_layout.specs.declared.callee.FuncId.{FuncId}
use Rattle.qil_semantics.specs.State.{State}
use Rattle.qil_semantics.specs.Step.{step_of}
use Rattle.qil_semantics.specs.Timeline.{Timeline, position, moved}
use Rattle.qil_spans.specs.declared.span.Span.{Span}
use Rattle.qil_spans.specs.Spans.{begin_of, depth_by, ended_by, ended_next, func_over, is_told, lasting, lasting_by, span, spans_by}
use Rattle.qil_spans.specs.Table.{IsInnermost, IsKept, Kept, after_move, last_of, lasting_in, nothing, told_of, with_begin, with_end, without_last}
use Rattle.qil_spans.proofs.Begins.{begin_first, begin_more, begin_next}
use Rattle.qil_spans.proofs.Depths.{step_near}

-- ---- lists

same_numbers : (xs : List ℕ) → map (λ i. i) xs ≡ xs
same_numbers [] = refl
same_numbers (x ∷ xs) = ap (λ l. x ∷ l) (same_numbers xs)

pub numbers_more : (n : ℕ) → range_with_len 0 (n + 1) ≡ range_with_len 0 n ++ n ∷ []
numbers_more n = sym (same_numbers (range_with_len 0 (n + 1))) ∙ map-range_with_len_more (λ i. i) 0 n n (omega arith) ∙ ap (λ l. l ++ n ∷ []) (same_numbers (range_with_len 0 n))

pub pieces_more : {X : Type 0} (g : ℕ → List X) (n : ℕ) → flat_map g (range_with_len 0 (n + 1)) ≡ flat_map g (range_with_len 0 n) ++ g n
pieces_more g n = ap (flat_map g) (numbers_more n) ∙ sym (flat_map_more g [] (range_with_len 0 n) n)

pieces_to : {X : Type 0} (g : ℕ → List X) (m n : ℕ) → m ≡ n → flat_map g (range_with_len 0 m) ≡ flat_map g (range_with_len 0 n)
pieces_to g m n e = ap (λ k. flat_map g (range_with_len 0 k)) e

found_before : {X : Type 0} (xs ys : List X) (i : ℕ) → i < length xs → slice_get (xs ++ ys) i ≡ slice_get xs i
found_before [] ys i lt = absurd (omega (arith, lt))
found_before (x ∷ xs) ys zero lt = refl
found_before (x ∷ xs) ys (suc i) lt = found_before xs ys i (omega (arith, lt))

found_last : {X : Type 0} (xs : List X) (y : X) (i : ℕ) → i ≡ length xs → slice_get (xs ++ y ∷ []) i ≡ Some y
found_last {X} xs y i e = ap (slice_get (xs ++ y ∷ [])) e ∙ at xs
  where
    at : (xs : List X) → slice_get (xs ++ y ∷ []) (length xs) ≡ Some y
    at [] = refl
    at (x ∷ xs) = at xs

found_taken : {X : Type 0} (xs : List X) (m i : ℕ) → i < m → slice_get (take m xs) i ≡ slice_get xs i
found_taken xs zero i lt = absurd (omega (arith, lt))
found_taken [] (suc m) i lt = refl
found_taken (x ∷ xs) (suc m) zero lt = refl
found_taken (x ∷ xs) (suc m) (suc i) lt = found_taken xs m i (omega (arith, lt))

-- one more that lasts
pub lasting_more : {A : Type 0} (p : Program A) (s : State) (older : ℕ) (begins : List ℕ) (i begin below : ℕ) (first old new : List Span) → slice_get begins i ≡ Some begin → below ≡ older + i → old ≡ first ++ lasting_in p s older begins i
    → new ≡ old ++ lasting (Some begin) (func_over p s below) below → new ≡ first ++ lasting_in p s older begins (i + 1)
lasting_more p s older begins i begin below first old new there at is more =
    let g : ℕ → List Span = λ j. lasting (slice_get begins j) (func_over p s (older + j)) (older + j) in
    more ∙ (λ k. is k ++ lasting (sym there k) (func_over p s (at k)) (at k)) ∙ append_assoc first (lasting_in p s older begins i) (g i) ∙ ap (λ l. first ++ l) (sym (pieces_more g i))

-- ---- depths along moves

pub depth_near : {A : Type 0} (p : Program A) (t : Timeline) (k : ℕ) → (depth_by p t (suc k) ≤ depth_by p t k + 1) × (depth_by p t k ≤ depth_by p t (suc k) + 1)
unfolding moved
depth_near p t k = step_near p (moved p k t).now

-- ---- frames that ended

ended_more : {A : Type 0} (p : Program A) (t : Timeline) (d k : ℕ) (spans : List Span) → ended_next p t k ≡ spans → ended_by p t d (k + 1) ≡ ended_by p t d k ++ filter (is_told d) spans
unfolding ended_by
ended_more p t d k spans e =
    let all : List Span = flat_map (ended_next p t) (range_with_len 0 k) in
    ap (filter (is_told d)) (pieces_more (ended_next p t) k ∙ ap (λ l. all ++ l) e) ∙ filter-append (is_told d) all spans

ended_none : {A : Type 0} (p : Program A) (t : Timeline) (k : ℕ) → depth_by p t k ≤ depth_by p t (suc k) → ended_next p t k ≡ []
ended_none p t k le = cond-false (nat_lt (depth_by p t (suc k)) (depth_by p t k)) _ [] (le-ltb (depth_by p t (suc k)) (depth_by p t k) le)

ended_one : {A : Type 0} (p : Program A) (t : Timeline) (k : ℕ) → depth_by p t (suc k) < depth_by p t k
    → ended_next p t k ≡ span (begin_of p t (depth_by p t (suc k)) k) (Some (position t + suc k)) (func_over p (moved p k t).now (depth_by p t (suc k))) (depth_by p t (suc k)) ∷ []
ended_one p t k lt = cond-true (nat_lt (depth_by p t (suc k)) (depth_by p t k)) _ [] (lt-ltb (depth_by p t (suc k)) (depth_by p t k) lt)

ended_same : {A : Type 0} (p : Program A) (t : Timeline) (d k : ℕ) (ended : List Span) → depth_by p t k ≤ depth_by p t (suc k) → ended ≡ ended_by p t d k → ended ≡ ended_by p t d (k + 1)
ended_same p t d k ended le e = e ∙ sym (ended_more p t d k [] (ended_none p t k le) ∙ append-nil (ended_by p t d k))

-- ---- one move more

ended_zero : {A : Type 0} (p : Program A) (t : Timeline) (d : ℕ) → [] ≡ ended_by p t d 0
unfolding ended_by
ended_zero p t d = refl

begun_none : {A : Type 0} (p : Program A) (t : Timeline) (d : ℕ) → IsKept p t d 0 nothing
begun_none p t d = record {
  ended = ended_zero p t d;
  older = depth_by p t 0;
  all = omega arith;
  before = λ n lt. begin_first p t n lt;
  begun = λ i lt. absurd (omega (arith, lt));
}

pub kept_none : {A : Type 0} (p : Program A) (t : Timeline) (d : ℕ) (kept : Kept) → kept ≡ nothing → IsKept p t d 0 kept
kept_none p t d kept e = subst (λ x. IsKept p t d 0 x) (sym e) (begun_none p t d)

next_is : {A : Type 0} (p : Program A) (t : Timeline) (k : ℕ) → depth_by p t (k + 1) ≡ depth_by p t (suc k)
next_is p t k = ap (depth_by p t) (omega arith)

begin_kept : {A : Type 0} (p : Program A) (t : Timeline) (n k : ℕ) → n < depth_by p t (suc k) → begin_of p t n (k + 1) ≡ begin_of p t n k
begin_kept p t n k lt = ap (begin_of p t n) (omega arith) ∙ begin_more p t n k lt

kept_same : {A : Type 0} (p : Program A) (t : Timeline) (d k : ℕ) (kept : Kept) → IsKept p t d k kept → depth_by p t (suc k) ≡ depth_by p t k → IsKept p t d (k + 1) kept
kept_same p t d k kept is same = record {
  ended = ended_same p t d k kept.ended (omega (arith, same)) is.ended;
  older = is.older;
  all = is.all ∙ sym same ∙ sym (next_is p t k);
  before = λ n lt. begin_kept p t n k (omega (arith, lt, same, is.all)) ∙ is.before n lt;
  begun = λ i lt. begin_kept p t (is.older + i) k (omega (arith, lt, same, is.all)) ∙ is.begun i lt;
}

kept_begun : {A : Type 0} (p : Program A) (t : Timeline) (d k at : ℕ) (kept : Kept) → IsKept p t d k kept → depth_by p t (suc k) ≡ suc (depth_by p t k) → at ≡ position t + suc k → IsKept p t d (k + 1) (with_begin at kept)
kept_begun p t d k at kept is up here =
    let long = length-append kept.begins (at ∷ []) in
    record {
      ended = ended_same p t d k kept.ended (omega (arith, up)) is.ended;
      older = is.older;
      all = (let sum : is.older + length (kept.begins ++ at ∷ []) ≡ depth_by p t (suc k) = omega (arith, long, is.all, up) in sum) ∙ sym (next_is p t k);
      before = λ n lt. begin_kept p t n k (omega (arith, lt, up, is.all)) ∙ is.before n lt;
      begun = λ i lt. by i (cases_lt i (length kept.begins)) (omega (arith, lt, long));
    }
  where
    by : (i : ℕ) → (i < length kept.begins) ⊎ (length kept.begins ≤ i) → i < length kept.begins + 1 → begin_of p t (is.older + i) (k + 1) ≡ slice_get (kept.begins ++ at ∷ []) i
    by i (inl lt) less =
        begin_kept p t (is.older + i) k (omega (arith, lt, up, is.all)) ∙ is.begun i lt ∙ sym (found_before kept.begins (at ∷ []) i lt)
    by i (inr ge) less =
        begin_kept p t (is.older + i) k (omega (arith, less, up, is.all)) ∙ begin_next p t (is.older + i) k (omega (arith, ge, is.all)) ∙ ap (λ m. Some m) (sym here)
        ∙ sym (found_last kept.begins at i (omega (arith, ge, less)))

-- the frame that ends: the last of those that began, or one that is older than all of them
ended_begin : {A : Type 0} (p : Program A) (t : Timeline) (d k : ℕ) (kept : Kept) → IsKept p t d k kept → suc (depth_by p t (suc k)) ≡ depth_by p t k → last_of kept.begins ≡ begin_of p t (depth_by p t (suc k)) k
ended_begin p t d k kept is down = by kept.begins refl
  where
    by : (begins : List ℕ) → begins ≡ kept.begins → last_of kept.begins ≡ begin_of p t (depth_by p t (suc k)) k
    by [] e =
        let none : length kept.begins ≡ 0 = ap length (sym e) in
        ap last_of (sym e) ∙ sym (is.before (depth_by p t (suc k)) (omega (arith, down, is.all, none)))
    by (b ∷ bs) e =
        let some : length kept.begins ≡ suc (length bs) = ap length (sym e) in
        let last : is.older + (length kept.begins - 1) ≡ depth_by p t (suc k) = omega (arith, down, is.all, some) in
        sym (is.begun (length kept.begins - 1) (omega (arith, some))) ∙ ap (λ n. begin_of p t n k) last

kept_ended : {A : Type 0} (p : Program A) (t : Timeline) (d k at : ℕ) (func : FuncId) (kept : Kept) → IsKept p t d k kept → suc (depth_by p t (suc k)) ≡ depth_by p t k → at ≡ position t + suc k → IsInnermost p (moved p k t).now func
    → IsKept p t d (k + 1) (with_end d at func (depth_by p t (suc k)) kept)
kept_ended p t d k at func kept is down here inner = by kept.begins refl
  where
    next : ℕ
    next = depth_by p t (suc k)

    one : span (last_of kept.begins) (Some at) func next ≡ span (begin_of p t next k) (Some (position t + suc k)) (func_over p (moved p k t).now next) next
    one = λ i. span (ended_begin p t d k kept is down i) (Some (here i)) (inner next (sym down) i) next

    ended : kept.ended ++ filter (is_told d) (span (last_of kept.begins) (Some at) func next ∷ []) ≡ ended_by p t d (k + 1)
    ended = (λ i. is.ended i ++ filter (is_told d) (one i ∷ [])) ∙ sym (ended_more p t d k _ (ended_one p t k (omega (arith, down))))

    by : (begins : List ℕ) → begins ≡ kept.begins → IsKept p t d (k + 1) (with_end d at func next kept)
    by [] e =
        let none : length kept.begins ≡ 0 = ap length (sym e) in
        let rest : without_last kept.begins ≡ [] = ap without_last (sym e) in
        let left : length (without_last kept.begins) ≡ 0 = ap length rest in
        record {
          ended = ended;
          older = next;
          all = (let sum : next + length (without_last kept.begins) ≡ next = omega (arith, left) in sum) ∙ sym (next_is p t k);
          before = λ n lt. begin_kept p t n k lt ∙ is.before n (omega (arith, lt, down, is.all, none));
          begun = λ i lt. absurd (omega (arith, lt, left));
        }
    by (b ∷ bs) e =
        let some : length kept.begins ≡ suc (length bs) = ap length (sym e) in
        let left : length (without_last kept.begins) ≡ length kept.begins - 1 = length-take-le (length kept.begins - 1) kept.begins (omega arith) in
        record {
          ended = ended;
          older = is.older;
          all = (let sum : is.older + length (without_last kept.begins) ≡ next = omega (arith, left, some, is.all, down) in sum) ∙ sym (next_is p t k);
          before = λ n lt. begin_kept p t n k (omega (arith, lt, some, is.all, down)) ∙ is.before n lt;
          begun = λ i lt.
              begin_kept p t (is.older + i) k (omega (arith, lt, left, some, is.all, down)) ∙ is.begun i (omega (arith, lt, left))
              ∙ sym (found_taken kept.begins (length kept.begins - 1) i (omega (arith, lt, left)));
        }

pub kept_more : {A : Type 0} (p : Program A) (t : Timeline) (d k at before after : ℕ) (func : FuncId) (kept : Kept) → IsKept p t d k kept → before ≡ depth_by p t k → after ≡ depth_by p t (k + 1) → at ≡ position t + (k + 1)
    → IsInnermost p (moved p k t).now func → IsKept p t d (k + 1) (after_move d before after func at kept)
kept_more p t d k at before after func kept is from to here inner = by (cases_lt before after) (cases_lt after before)
  where
    near : (depth_by p t (suc k) ≤ depth_by p t k + 1) × (depth_by p t k ≤ depth_by p t (suc k) + 1)
    near = depth_near p t k

    next : after ≡ depth_by p t (suc k)
    next = to ∙ next_is p t k

    there : at ≡ position t + suc k
    there = omega (arith, here)

    move : Bool → Bool → Kept
    move up down = if up then with_begin at kept else (if down then with_end d at func after kept else kept)

    by : (before < after) ⊎ (after ≤ before) → (after < before) ⊎ (before ≤ after) → IsKept p t d (k + 1) (after_move d before after func at kept)
    by (inl up) others =
        subst (λ b. IsKept p t d (k + 1) (move b (nat_lt after before))) (sym (lt-ltb before after up)) (kept_begun p t d k at kept is (omega (arith, up, from, next, near.0)) there)
    by (inr le) (inl down) =
        subst (λ b. IsKept p t d (k + 1) (move b (nat_lt after before))) (sym (le-ltb before after le))
        (subst (λ b. IsKept p t d (k + 1) (move false b)) (sym (lt-ltb after before down))
        (subst (λ n. IsKept p t d (k + 1) (with_end d at func n kept)) (sym next) (kept_ended p t d k at func kept is (omega (arith, down, from, next, near.1)) there inner)))
    by (inr le) (inr ge) =
        subst (λ b. IsKept p t d (k + 1) (move b (nat_lt after before))) (sym (le-ltb before after le))
        (subst (λ b. IsKept p t d (k + 1) (move false b)) (sym (le-ltb after before ge)) (kept_same p t d k kept is (omega (arith, le, ge, from, next))))

-- ---- all that is told

-- no older frame is told
older_none : {A : Type 0} (p : Program A) (t : Timeline) (k older m : ℕ) → m ≤ older → ((n : ℕ) → n < older → begin_of p t n k ≡ None)
    → flat_map (λ n. lasting (begin_of p t n k) (func_over p (moved p k t).now n) n) (range_with_len 0 m) ≡ []
older_none p t k older zero le none = refl
older_none p t k older (suc m) le none =
    let g : ℕ → List Span = λ n. lasting (begin_of p t n k) (func_over p (moved p k t).now n) n in
    pieces_to g (suc m) (m + 1) (omega arith) ∙ pieces_more g m ∙ ap (λ l. flat_map g (range_with_len 0 m) ++ l) (ap (λ o. lasting o (func_over p (moved p k t).now m) m) (none m (omega (arith, le))))
    ∙ append-nil (flat_map g (range_with_len 0 m)) ∙ older_none p t k older m (omega (arith, le)) none

begun_all : {A : Type 0} (p : Program A) (t : Timeline) (d k i : ℕ) (kept : Kept) (is : IsKept p t d k kept) → i ≤ length kept.begins
    → lasting_in p (moved p k t).now is.older kept.begins i ≡ flat_map (λ n. lasting (begin_of p t n k) (func_over p (moved p k t).now n) n) (range_with_len 0 (is.older + i))
begun_all p t d k zero kept is le =
    sym (pieces_to (λ n. lasting (begin_of p t n k) (func_over p (moved p k t).now n) n) (is.older + 0) is.older (omega arith) ∙ older_none p t k is.older is.older (omega arith) is.before)
begun_all p t d k (suc i) kept is le =
    let s : State = (moved p k t).now in
    let g : ℕ → List Span = λ n. lasting (begin_of p t n k) (func_over p s n) n in
    let h : ℕ → List Span = λ j. lasting (slice_get kept.begins j) (func_over p s (is.older + j)) (is.older + j) in
    pieces_to h (suc i) (i + 1) (omega arith) ∙ pieces_more h i
    ∙ (λ j. begun_all p t d k i kept is (omega (arith, le)) j ++ lasting (sym (is.begun i (omega (arith, le))) j) (func_over p s (is.older + i)) (is.older + i))
    ∙ sym (pieces_more g (is.older + i)) ∙ pieces_to g (is.older + i + 1) (is.older + suc i) (omega arith)

pub told_all : {A : Type 0} (p : Program A) (t : Timeline) (d k : ℕ) (s : State) (kept : Kept) → IsKept p t d k kept → s ≡ (moved p k t).now → told_of p s kept ≡ spans_by p t d k
unfolding lasting_by
told_all p t d k s kept is at =
    let older : depth_by p t k - length kept.begins ≡ is.older = omega (arith, is.all) in
    ap (λ x. told_of p x kept) at
    ∙ (λ j. is.ended j ++ lasting_in p (moved p k t).now (older j) kept.begins (length kept.begins))
    ∙ ap (λ l. ended_by p t d k ++ l) (begun_all p t d k (length kept.begins) kept is (omega arith) ∙ pieces_to (λ n. lasting (begin_of p t n k) (func_over p (moved p k t).now n) n) (is.older + length kept.begins) (depth_by p t k) is.all)

pub few_begins : {A : Type 0} (p : Program A) (t : Timeline) (d k : ℕ) (kept : Kept) → IsKept p t d k kept → length kept.begins ≤ depth_by p t k
few_begins p t d k kept is = omega (arith, is.all)
