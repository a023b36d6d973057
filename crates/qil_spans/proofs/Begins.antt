-- Where a frame begins, state by state.
use Rattle.std.proofs.Common.{◌≡◌, refl, sym, ap, ◌∙◌, subst, ℕ, zero, suc, ◌+◌, ◌-◌, ◌<◌, ◌≤◌, ◌⊎◌, inl, inr, Bool, true, false, cond, Option, Some, None, arith}
use Rattle.std.specs.Prelude.{if◌then◌else◌, nat_le, nat_lt}
use Rattle.std.proofs.lemmas.Bool.{cases_lt, cond-true, cond-false, le-leb, le-ltb, lt-leb, lt-ltb}
use Rattle.qil_tree.specs.declared.tree.Program.{Program}
use Rattle.qil_semantics.specs.Timeline.{Timeline, position}
use Rattle.qil_semantics.specs.Moves.{least}
use Rattle.qil_spans.specs.Spans.{begin_of, depth_by, row_over}
use Rattle.qil_spans.specs.Laws.{Began, HasBegun}

-- ---- how many states in a row

state_less : {A : Type 0} (p : Program A) (t : Timeline) (n m k : ℕ) → m ≡ k → nat_le (depth_by p t m) n ≡ nat_le (depth_by p t k) n
state_less p t n m k e = ap (λ i. nat_le (depth_by p t i) n) e

row_here : {A : Type 0} (p : Program A) (t : Timeline) (n k : ℕ) → depth_by p t k ≤ n → row_over p t n k ≡ 0
unfolding least
row_here p t n k le =
    cond-true (nat_le (depth_by p t (k - 0)) n) 0 (suc (least (λ i. nat_le (depth_by p t (k - suc i)) n) k))
    (state_less p t n (k - 0) k (omega arith) ∙ le-leb (depth_by p t k) n le)

row_first : {A : Type 0} (p : Program A) (t : Timeline) (n : ℕ) → n < depth_by p t 0 → row_over p t n 0 ≡ 1
unfolding least
row_first p t n lt = cond-false (nat_le (depth_by p t 0) n) 0 1 (lt-leb (depth_by p t 0) n lt)

row_more : {A : Type 0} (p : Program A) (t : Timeline) (n k : ℕ) → n < depth_by p t (suc k) → row_over p t n (suc k) ≡ suc (row_over p t n k)
unfolding least
row_more p t n k lt =
    cond-false (nat_le (depth_by p t (suc k - 0)) n) 0 (suc (least (λ i. nat_le (depth_by p t (suc k - suc i)) n) (suc k)))
    (state_less p t n (suc k - 0) (suc k) (omega arith) ∙ lt-leb (depth_by p t (suc k)) n lt)
    ∙ (λ j. suc (least (λ i. state_less p t n (suc k - suc i) (k - i) (omega arith) j) (suc k)))

-- ---- where it begins

begins_by : {A : Type 0} (p : Program A) (t : Timeline) (n k : ℕ) (r : ℕ) → row_over p t n k ≡ r → begin_of p t n k ≡ (if nat_lt k r then None else Some (position t + (suc k - r)))
unfolding begin_of
begins_by p t n k r e = ap (λ m. if nat_lt k m then None else Some (position t + (suc k - m))) e

none_if : (k r : ℕ) (x : Option ℕ) → k < r → (if nat_lt k r then None else x) ≡ None
none_if k r x lt = cond-true (nat_lt k r) None x (lt-ltb k r lt)

some_if : (k r : ℕ) (x : Option ℕ) → r ≤ k → (if nat_lt k r then None else x) ≡ x
some_if k r x le = cond-false (nat_lt k r) None x (le-ltb k r le)

-- where the state by k moves has no such frame, it begins with the next move
pub begin_next : {A : Type 0} (p : Program A) (t : Timeline) (n k : ℕ) → depth_by p t k ≤ n → begin_of p t n k ≡ Some (position t + suc k)
begin_next p t n k le = begins_by p t n k 0 (row_here p t n k le) ∙ some_if k 0 (Some (position t + (suc k - 0))) (omega arith) ∙ ap (λ m. Some (position t + m)) (omega arith)

-- one that was there at the start
pub begin_first : {A : Type 0} (p : Program A) (t : Timeline) (n : ℕ) → n < depth_by p t 0 → begin_of p t n 0 ≡ None
begin_first p t n lt = begins_by p t n 0 1 (row_first p t n lt) ∙ none_if 0 1 (Some (position t + (1 - 1))) (omega arith)

-- one that is still there
pub begin_more : {A : Type 0} (p : Program A) (t : Timeline) (n k : ℕ) → n < depth_by p t (suc k) → begin_of p t n (suc k) ≡ begin_of p t n k
begin_more p t n k lt = begins_by p t n (suc k) (suc r) (row_more p t n k lt) ∙ by (cases_lt k r) ∙ sym (begins_by p t n k r refl)
  where
    r : ℕ
    r = row_over p t n k

    by : (k < r) ⊎ (r ≤ k) → (if nat_lt (suc k) (suc r) then None else Some (position t + (suc (suc k) - suc r))) ≡ (if nat_lt k r then None else Some (position t + (suc k - r)))
    by (inl lt) = none_if (suc k) (suc r) _ (omega (arith, lt)) ∙ sym (none_if k r _ lt)
    by (inr le) = some_if (suc k) (suc r) _ (omega (arith, le)) ∙ ap (λ m. Some (position t + m)) (omega arith) ∙ sym (some_if k r _ le)

-- ---- what it says of the states

begun_more : {A : Type 0} (p : Program A) (t : Timeline) (n k : ℕ) (o : Option ℕ) → n < depth_by p t (suc k) → HasBegun p t n k o → HasBegun p t n (suc k) o
begun_more p t n k None lt all = λ j le. by j (cases_lt j (suc k)) le
  where
    last : (j : ℕ) → suc k ≡ j → n < depth_by p t j
    last j e = subst (λ i. n < depth_by p t i) e lt

    by : (j : ℕ) → (j < suc k) ⊎ (suc k ≤ j) → j ≤ suc k → n < depth_by p t j
    by j (inl less) le = all j (omega (arith, less))
    by j (inr more) le = last j (omega (arith, more, le))
begun_more p t n k (Some begin) lt h = record {
  moves = h.moves;
  at = h.at;
  few = omega (arith, h.few);
  before = h.before;
  since = λ j after le. by j (cases_lt j (suc k)) after le;
}
  where
    last : (j : ℕ) → suc k ≤ j → j ≤ suc k → suc k ≡ j
    last j more le = omega (arith, more, le)

    by : (j : ℕ) → (j < suc k) ⊎ (suc k ≤ j) → h.moves < j → j ≤ suc k → n < depth_by p t j
    by j (inl less) after le = h.since j after (omega (arith, less))
    by j (inr more) after le = subst (λ i. n < depth_by p t i) (last j more le) lt

begun_next : {A : Type 0} (p : Program A) (t : Timeline) (n k : ℕ) → depth_by p t k ≤ n → Began p t n k (position t + suc k)
begun_next p t n k le = record { moves = k; at = refl; few = omega arith; before = le; since = λ j after within. absurd (omega (arith, after, within)) }

pub begun : {A : Type 0} (p : Program A) (t : Timeline) (n k : ℕ) → HasBegun p t n k (begin_of p t n k)
begun p t n zero = by (cases_lt n (depth_by p t 0))
  where
    none : (j : ℕ) → j ≤ 0 → 0 ≡ j
    none j le = omega (arith, le)

    by : (n < depth_by p t 0) ⊎ (depth_by p t 0 ≤ n) → HasBegun p t n 0 (begin_of p t n 0)
    by (inl lt) = subst (λ o. HasBegun p t n 0 o) (sym (begin_first p t n lt)) (λ j le. subst (λ i. n < depth_by p t i) (none j le) lt)
    by (inr le) = subst (λ o. HasBegun p t n 0 o) (sym (begin_next p t n 0 le)) (begun_next p t n 0 le)
begun p t n (suc k) = by (begun p t n k) (cases_lt n (depth_by p t (suc k)))
  where
    by : HasBegun p t n k (begin_of p t n k) → (n < depth_by p t (suc k)) ⊎ (depth_by p t (suc k) ≤ n) → HasBegun p t n (suc k) (begin_of p t n (suc k))
    by deep (inl lt) = subst (λ o. HasBegun p t n (suc k) o) (sym (begin_more p t n k lt)) (begun_more p t n k (begin_of p t n k) lt deep)
    by deep (inr le) = subst (λ o. HasBegun p t n (suc k) o) (sym (begin_next p t n (suc k) le)) (begun_next p t n (suc k) le)
