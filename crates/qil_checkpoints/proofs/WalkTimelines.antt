-- Timelines of walks: on by steps and by a poke, back by moves, and what a walk is in other words.
use Rattle.std.proofs.Common.{◌≡◌, refl, sym, ap, ◌∙◌, subst, ℕ, zero, suc, ◌+◌, ◌-◌, ◌<◌, ◌≤◌, false, List, [], ◌∷◌, ◌++◌, length, drop, get_or, Option, None, Ok, inl, inr, arith}
use Rattle.std.proofs.lemmas.Bool.{cases_lt}
use Rattle.qil_tree.specs.declared.tree.Program.{Program}
use Rattle.qil_semantics.specs.State.{State, is_final}
use Rattle.qil_semantics.specs.Step.{step_of}
use Rattle.qil_semantics.specs.Targets.{after}
use Rattle.qil_semantics.specs.Timeline.{Timeline, position, forward, to, moved, gone}
use Rattle.qil_checkpoints.specs.declared.poked.KeptPoke.{KeptPoke}
use Rattle.qil_checkpoints.specs.declared.poked.Poked.{Poked}
use Rattle.qil_checkpoints.specs.Walk.{after_poke, poke_at, ArePoked, next_by, or_stays, walk, walked, timeline_at, IsMove, AreMoves, LeadsBack, IsWalk}
use Rattle.qil_checkpoints.proofs.Parts.{none-above, push-before, push-here}
use Rattle.qil_checkpoints.proofs.AlongWalks.{SamePokes, walk-zero, walk-suc, walk-step, walk-after, walk-same, walked-same, moves-same}

-- ---- the states of a walk

pub walked-length : {A : Type 0} (p : Program A) (s : State) (pokes : List Poked) (n : ℕ) → length (walked p s pokes n) ≡ n
unfolding walked
walked-length p s pokes zero = refl
walked-length p s pokes (suc n) = ap suc (walked-length p s pokes n)

pub at-position : {A : Type 0} (p : Program A) (s : State) (pokes : List Poked) (n : ℕ) → position (timeline_at p s pokes n) ≡ n
at-position p s pokes n = let l = walked-length p s pokes n in omega (arith, l)

pub timeline-same : {A : Type 0} (p : Program A) (s : State) (a b : List Poked) (n : ℕ) → SamePokes a b n → timeline_at p s a n ≡ timeline_at p s b n
timeline-same p s a b n same = λ i. record { now = walk-same p s a b n same i; past = walked-same p s a b n same i; forgotten = 0; keeps = None }

-- ---- on

-- a move leads to the next state of the walk
pub to-next : {A : Type 0} (p : Program A) (s next : State) (pokes : List Poked) (n : ℕ) → next ≡ walk p s pokes (suc n) → to next (timeline_at p s pokes n) ≡ timeline_at p s pokes (suc n)
unfolding walked
to-next p s next pokes n e = λ i. record { now = e i; past = walked p s pokes (suc n); forgotten = 0; keeps = None }

-- where no poke was made, moves are steps
pub moved-walk : {A : Type 0} (p : Program A) (s : State) (pokes : List Poked) (n k : ℕ) → ((j : ℕ) → n ≤ j → j < n + k → poke_at pokes j ≡ None) → moved p k (timeline_at p s pokes n) ≡ timeline_at p s pokes (n + k)
unfolding moved
moved-walk p s pokes n zero none = let e : n ≡ n + 0 = omega arith in ap (timeline_at p s pokes) e
moved-walk p s pokes n (suc k) none =
    let e : suc (n + k) ≡ n + suc k = omega arith in
    ap (λ (t : Timeline). forward p t) (moved-walk p s pokes n k (λ j ge lt. none j ge (omega (arith, lt))))
    ∙ to-next p s (step_of p (walk p s pokes (n + k))) pokes (n + k) (sym (walk-step p s pokes (n + k) (none (n + k) (omega arith) (omega arith))))
    ∙ ap (timeline_at p s pokes) e

-- after the last poke there is none
pub no-poke : (pokes : List Poked) (n k : ℕ) → ArePoked 0 pokes n → (j : ℕ) → n ≤ j → j < n + k → poke_at pokes j ≡ None
no-poke pokes n k poked j ge lt = none-above 0 pokes n j poked ge

-- the moves up to a position, and steps of states that run
pub moves-more : {A : Type 0} (p : Program A) (s : State) (pokes : List Poked) (n k : ℕ) → AreMoves p s pokes n → ArePoked 0 pokes n → ((j : ℕ) → j < k → is_final (after p (walk p s pokes n) j).status ≡ false) → AreMoves p s pokes (n + k)
moves-more {A} p s pokes n k moves poked runs = λ j lt. elim (cases_lt j n) [
  | inl below ↦ moves j below
  | inr ge ↦ step_at p s pokes n k poked runs j ge lt
]
  where
    step_at : {A : Type 0} (p : Program A) (s : State) (pokes : List Poked) (n k : ℕ) → ArePoked 0 pokes n → ((j : ℕ) → j < k → is_final (after p (walk p s pokes n) j).status ≡ false) → (j : ℕ) → n ≤ j → j < n + k
        → IsMove p (poke_at pokes j) (walk p s pokes j) (walk p s pokes (suc j))
    step_at {A} p s pokes n k poked runs j ge lt =
        let none : poke_at pokes j ≡ None = none-above 0 pokes n j poked ge in
        let at : n + (j - n) ≡ j = omega (arith, ge) in
        let there : walk p s pokes (n + (j - n)) ≡ after p (walk p s pokes n) (j - n) = walk-after p s pokes n (j - n) (λ i above below. none-above 0 pokes n i poked above) in
        let running : is_final (walk p s pokes j).status ≡ false = ap (λ i. is_final (walk p s pokes i).status) (sym at) ∙ ap (λ (t : State). is_final t.status) there ∙ runs (j - n) (omega (arith, ge, lt)) in
        subst (λ (o : Option KeptPoke). IsMove p o (walk p s pokes j) (walk p s pokes (suc j))) (sym none) ((running, walk-step p s pokes j none))

-- ---- one poke more

pub push-same : (pokes : List Poked) (q : Poked) → SamePokes (pokes ++ q ∷ []) pokes q.position
push-same pokes q = λ j lt. push-before pokes q j lt

pub walk-push : {A : Type 0} (p : Program A) (s next : State) (pokes : List Poked) (q : Poked) (n : ℕ) → ArePoked 0 pokes n → q.position ≡ n → after_poke p (walk p s pokes n) q.poke ≡ Ok next
    → next ≡ walk p s (pokes ++ q ∷ []) (suc n)
walk-push p s next pokes q n poked at made =
    let same : SamePokes (pokes ++ q ∷ []) pokes n = λ j lt. push-before pokes q j (omega (arith, lt, at)) in
    sym (
    walk-suc p s (pokes ++ q ∷ []) n
    ∙ ap (λ (o : Option KeptPoke). next_by p o (walk p s (pokes ++ q ∷ []) n)) (push-here 0 pokes n q poked at)
    ∙ ap (λ (t : State). or_stays t (after_poke p t q.poke)) (walk-same p s (pokes ++ q ∷ []) pokes n same)
    ∙ ap (or_stays (walk p s pokes n)) made
    )

pub moves-push : {A : Type 0} (p : Program A) (s next : State) (pokes : List Poked) (q : Poked) (n : ℕ) → AreMoves p s pokes n → ArePoked 0 pokes n → q.position ≡ n → after_poke p (walk p s pokes n) q.poke ≡ Ok next
    → AreMoves p s (pokes ++ q ∷ []) (n + 1)
moves-push {A} p s next pokes q n moves poked at made = λ j lt. elim (cases_lt j n) [
  | inl below ↦ moves-same p s pokes (pokes ++ q ∷ []) n (λ i under. sym (push-before pokes q i (omega (arith, under, at)))) moves j below
  | inr ge ↦ (let e : n ≡ j = omega (arith, ge, lt) in
      let same : SamePokes (pokes ++ q ∷ []) pokes n = λ i under. push-before pokes q i (omega (arith, under, at)) in
      let here : after_poke p (walk p s (pokes ++ q ∷ []) n) q.poke ≡ Ok (walk p s (pokes ++ q ∷ []) (suc n)) =
      ap (λ (t : State). after_poke p t q.poke) (walk-same p s (pokes ++ q ∷ []) pokes n same) ∙ made ∙ ap (λ (t : State). Ok t) (walk-push p s next pokes q n poked at made) in
      subst (λ i. IsMove p (poke_at (pokes ++ q ∷ []) i) (walk p s (pokes ++ q ∷ []) i) (walk p s (pokes ++ q ∷ []) (suc i))) e
      (subst (λ (o : Option KeptPoke). IsMove p o (walk p s (pokes ++ q ∷ []) n) (walk p s (pokes ++ q ∷ []) (suc n))) (sym (push-here 0 pokes n q poked at)) here))
]

-- the timeline after a poke
pub timeline-push : {A : Type 0} (p : Program A) (s next : State) (pokes : List Poked) (q : Poked) (n : ℕ) → ArePoked 0 pokes n → q.position ≡ n → after_poke p (walk p s pokes n) q.poke ≡ Ok next
    → to next (timeline_at p s pokes n) ≡ timeline_at p s (pokes ++ q ∷ []) (n + 1)
timeline-push p s next pokes q n poked at made =
    let same : SamePokes pokes (pokes ++ q ∷ []) n = λ j lt. sym (push-before pokes q j (omega (arith, lt, at))) in
    let one : suc n ≡ n + 1 = omega arith in
    ap (to next) (timeline-same p s pokes (pokes ++ q ∷ []) n same)
    ∙ to-next p s next (pokes ++ q ∷ []) n (walk-push p s next pokes q n poked at made)
    ∙ ap (timeline_at p s (pokes ++ q ∷ [])) one

-- ---- back

drop_walked : {A : Type 0} (p : Program A) (s : State) (pokes : List Poked) (k m n : ℕ) → k + m ≡ n → drop k (walked p s pokes n) ≡ walked p s pokes m
unfolding walked
drop_walked p s pokes zero m n e = let same : n ≡ m = omega (arith, e) in ap (walked p s pokes) same
drop_walked p s pokes (suc k) m zero e = absurd (omega (arith, e))
drop_walked p s pokes (suc k) m (suc n) e = drop_walked p s pokes k m n (omega (arith, e))

nth_walked : {A : Type 0} (p : Program A) (s d : State) (pokes : List Poked) (k m n : ℕ) → k + m ≡ n → get_or (walk p s pokes n ∷ walked p s pokes n) k d ≡ walk p s pokes m
unfolding walked
nth_walked p s d pokes zero m n e = let same : n ≡ m = omega (arith, e) in ap (walk p s pokes) same
nth_walked p s d pokes (suc k) m zero e = absurd (omega (arith, e))
nth_walked p s d pokes (suc k) m (suc n) e = nth_walked p s d pokes k m n (omega (arith, e))

-- so many moves back from a position stands an earlier one
pub gone-walk : {A : Type 0} (p : Program A) (s : State) (pokes : List Poked) (k m n : ℕ) → k + m ≡ n → gone k (timeline_at p s pokes n) ≡ timeline_at p s pokes m
unfolding gone
gone-walk p s pokes k m n e = λ i. record { now = nth_walked p s (walk p s pokes n) pokes k m n e i; past = drop_walked p s pokes k m n e i; forgotten = 0; keeps = None }

-- ---- in other words

leads_back : {A : Type 0} (p : Program A) (s : State) (pokes : List Poked) (n : ℕ) → AreMoves p s pokes n → LeadsBack p pokes s (walk p s pokes n) (walked p s pokes n)
unfolding walked
leads_back p s pokes zero moves = walk-zero p s pokes
leads_back {A} p s pokes (suc n) moves = (
  subst (λ i. IsMove p (poke_at pokes i) (walk p s pokes n) (walk p s pokes (suc n))) (sym (walked-length p s pokes n)) (moves n (omega arith)),
  leads_back p s pokes n (λ j lt. moves j (omega (arith, lt))),
)

pub timeline-is_walk : {A : Type 0} (p : Program A) (s : State) (pokes : List Poked) (n : ℕ) → AreMoves p s pokes n → IsWalk p s pokes n (timeline_at p s pokes n)
timeline-is_walk p s pokes n moves = record { leads = leads_back p s pokes n moves; long = walked-length p s pokes n; whole = (refl, refl) }
