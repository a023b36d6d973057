-- Several moves along a timeline, one after the other.
use Rattle.std.proofs.Common.{◌≡◌, refl, sym, ap, ◌∙◌, ℕ, zero, suc, ◌+◌, ◌<◌, ◌≤◌, min, Bool, true, false, [], length, Result, Err, arith}
use Rattle.std.specs.Prelude.{◌↔◌, ◌≢◌}
use Rattle.std.proofs.lemmas.Bool.{cond-true, cond-false}
use borrow.Author.Count.{below_more}
use Rattle.qil_tree.specs.declared.tree.Program.{Program}
use Rattle.qil_semantics.specs.Timeline.{Timeline, forward, position, at_end, moved, gone}
use Rattle.qil_semantics.specs.Moves.{least, forward_by, back_by}
use Rattle.qil_history.specs.declared.history.BackError.{BackError}
use Rattle.qil_history.specs.declared.history.BackError.TheVariants.{AtStart, Oldest}
use Rattle.qil_stops.proofs.OnWay.{moved-position}
use Rattle.qil_stops.proofs.BackWay.{IsBackWay}

-- ---- the least number at which a test holds

pub least-is : (test : ℕ → Bool) (n k : ℕ) → k ≤ n → ((j : ℕ) → j < k → test j ≡ false) → (k < n → test k ≡ true) → least test n ≡ k
unfolding least
least-is test zero k le below here = omega (arith, le)
least-is test (suc n) zero le below here = cond-true (test zero) zero (suc (least (λ k. test (suc k)) n)) (here (omega arith))
least-is test (suc n) (suc k) le below here =
    cond-false (test zero) zero (suc (least (λ k. test (suc k)) n)) (below zero (omega arith))
    ∙ ap suc (least-is (λ k. test (suc k)) n k (omega (arith, le)) (λ j lt. below (suc j) (omega (arith, lt))) (λ lt. here (omega (arith, lt))))

-- ---- forward: k moves were made, none of them from the end

pub record IsWalked {A : Type 0} (p : Program A) (t : Timeline) (k : ℕ) (now : Timeline) : Type 0 where
  pub moves : now ≡ moved p k t
  pub runs : (j : ℕ) → j < k → at_end (moved p j t) ≡ false

pub walked-none : {A : Type 0} (p : Program A) (t : Timeline) → IsWalked p t 0 t
unfolding moved
walked-none p t = record { moves = refl; runs = λ j lt. absurd (omega (arith, lt)) }

moved-more : {A : Type 0} (p : Program A) (k : ℕ) (t now new : Timeline) → now ≡ moved p k t → new ≡ forward p now → new ≡ moved p (k + 1) t
unfolding moved
moved-more p k t now new e f =
    let one : k + 1 ≡ suc k = omega arith in
    f ∙ (ap (λ (u : Timeline). forward p u) e ∙ ap (λ n. moved p n t) (sym one))

pub walked-more : {A : Type 0} (p : Program A) (k : ℕ) (t now new : Timeline) → IsWalked p t k now → at_end now ≡ false → new ≡ forward p now → IsWalked p t (k + 1) new
walked-more p k t now new way goes f = record {
  moves = moved-more p k t now new way.moves f;
  runs = below_more (λ j. at_end (moved p j t) ≡ false) k way.runs (ap at_end (sym way.moves) ∙ goes);
}

pub walked-position : {A : Type 0} (p : Program A) (k : ℕ) (t now : Timeline) → IsWalked p t k now → position now ≡ position t + k
walked-position p k t now way = ap position way.moves ∙ moved-position p k t

pub walked-near : {A : Type 0} (p : Program A) (n k : ℕ) (t now new : Timeline) → IsWalked p t k now → k ≤ n → new ≡ now → position new ≤ position t + n
walked-near p n k t now new way le same =
    let there : position now ≡ position t + k = walked-position p k t now way in
    let at : position new ≡ position now = ap position same in
    omega (arith, le, there, at)

-- all moves were made, or the end is reached
pub walked-all : {A : Type 0} (p : Program A) (n k : ℕ) (t now new : Timeline) → IsWalked p t k now → k ≤ n → new ≡ now → (k < n → at_end now ≡ true) → new ≡ forward_by p n t
walked-all p n k t now new way le same over =
    same ∙ way.moves ∙ ap (λ i. moved p i t) (sym (least-is (λ j. at_end (moved p j t)) n k le way.runs (λ lt. ap at_end (sym way.moves) ∙ over lt)))

-- ---- back

bottom-reached : (t : Timeline) (e : BackError) (r : Result (Unit {0}) BackError) → r ≡ Err e
    → (r ≡ Err AtStart) ↔ (position t ≡ 0) → (r ≡ Err Oldest) ↔ ((t.past ≡ []) × (position t ≢ 0)) → length t.past ≡ 0
bottom-reached t AtStart r is start oldest = let at = start.0 is in omega (arith, at)
bottom-reached t Oldest r is start oldest = ap length (oldest.0 is).0

-- no move is left to take back
pub gone-bottom : (n k : ℕ) (t now new : Timeline) (e : BackError) (r : Result (Unit {0}) BackError) → IsBackWay [] t k now → k < n → new ≡ now → r ≡ Err e
    → (r ≡ Err AtStart) ↔ (position now ≡ 0) → (r ≡ Err Oldest) ↔ ((now.past ≡ []) × (position now ≢ 0)) → new ≡ back_by n t
gone-bottom n k t now new e r way lt same is start oldest =
    let none = bottom-reached now e r is start oldest in
    let left = way.left in
    let all : k ≡ min n (length t.past) = omega (arith, none, left, lt) in
    same ∙ way.moves ∙ ap (λ i. gone i t) all

pub gone-all : (n k : ℕ) (t now : Timeline) → IsBackWay [] t k now → k ≡ n → now ≡ back_by n t
gone-all n k t now way e =
    let left = way.left in
    let all : k ≡ min n (length t.past) = omega (arith, left, e) in
    way.moves ∙ ap (λ i. gone i t) all

pub gone-near : (k : ℕ) (t now new : Timeline) → IsBackWay [] t k now → new ≡ now → position new ≤ position t
gone-near k t now new way same =
    let left = way.left in
    let older : now.forgotten ≡ t.forgotten = way.forgotten in
    let at : position new ≡ position now = ap position same in
    omega (arith, left, older, at)
