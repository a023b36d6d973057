-- What is held, after a run, a jump back and a poke; and the timeline then.
use Rattle.std.proofs.Common.{◌≡◌, sym, ap, ◌∙◌, subst, ℕ, suc, ◌+◌, ◌-◌, min, ◌<◌, ◌≤◌, true, false, List, [], ◌∷◌, ◌++◌, length, take, Some, None, Ok, ◌⊎◌, inl, inr, arith}
use Rattle.std.specs.Prelude.{slice_get}
use Rattle.qil_tree.specs.declared.tree.Program.{Program}
use Rattle.qil_semantics.specs.State.{State, is_final}
use Rattle.qil_semantics.specs.Targets.{after}
use Rattle.qil_semantics.specs.Timeline.{Timeline, begun, position, at_end, to, moved, gone}
use Rattle.qil_semantics.specs.Moves.{back_by}
use Rattle.qil_state.specs.State.{Whole, state_of}
use Rattle.qil_checkpoints.specs.declared.poked.Poked.{Poked}
use Rattle.qil_checkpoints.specs.Walk.{after_poke, HasWidth, count_before, walk, walked, timeline_at, AreMoves}
use Rattle.qil_checkpoints.specs.Held.{Held, first_of, AreUpTo, IsKept, Holds, Reaches, held_timeline}
use Rattle.qil_checkpoints.proofs.Parts.{poked-raise, poked-push, front-same, push-before}
use Rattle.qil_checkpoints.proofs.AlongWalks.{SamePokes, walk-zero, walk-after, walk-same, runs-there}
use Rattle.qil_checkpoints.proofs.WalkTimelines.{walked-length, at-position, timeline-same, moved-walk, no-poke, moves-more, walk-push, moves-push, timeline-push, gone-walk}
use Rattle.qil_checkpoints.proofs.Copies.{kept-there, kept-moves, kept-same, come-same, kept-begun}

-- ---- from parts to what equals them

pub kept-as : {A : Type 0} (p q : Program A) (kept other : List State) (positions : List ℕ) (pokes : List Poked) (n : ℕ) → p ≡ q → kept ≡ other → IsKept p kept positions pokes n → IsKept q other positions pokes n
kept-as {A} p q kept other positions pokes n e f is = subst (λ (ss : List State). IsKept q ss positions pokes n) f (subst (λ (r : Program A). IsKept r kept positions pokes n) e is)

pub timeline-as : {A : Type 0} (p q : Program A) (kept other : List State) (pokes : List Poked) (n : ℕ) → p ≡ q → kept ≡ other → timeline_at p (first_of kept) pokes n ≡ timeline_at q (first_of other) pokes n
timeline-as {A} p q kept other pokes n e f = ap (λ (r : Program A). timeline_at r (first_of kept) pokes n) e ∙ ap (λ (ss : List State). timeline_at q (first_of ss) pokes n) f

pub walk-as : {A : Type 0} (p q : Program A) (kept other : List State) (pokes : List Poked) (n : ℕ) → p ≡ q → kept ≡ other → walk p (first_of kept) pokes n ≡ walk q (first_of other) pokes n
walk-as {A} p q kept other pokes n e f = ap (λ (r : Program A). walk r (first_of kept) pokes n) e ∙ ap (λ (ss : List State). walk q (first_of ss) pokes n) f

-- ---- after a run

kept-more : {A : Type 0} (p : Program A) (kept : List State) (positions : List ℕ) (pokes : List Poked) (n m : ℕ) → IsKept p kept positions pokes n → n ≤ m → AreMoves p (first_of kept) pokes m → IsKept p kept positions pokes m
kept-more p kept positions pokes n m is le moves = record { copies = is.copies; start = is.start; come_to = is.come_to; poked = poked-raise 0 pokes n m is.poked le; moves = moves }

-- the states that were run through are those of the walk
ran_at : {A : Type 0} (w : Whole A) (kept : List State) (positions : List ℕ) (pokes : List Poked) (n k : ℕ) → Holds w kept positions pokes n → walk w.program (first_of kept) pokes (n + k) ≡ after w.program (state_of w) k
ran_at w kept positions pokes n k h =
    walk-after w.program (first_of kept) pokes n k (no-poke pokes n k h.is_kept.poked) ∙ ap (λ (t : State). after w.program t k) (sym h.now)

pub held-run : {A : Type 0} (w new : Whole A) (kept other : List State) (positions : List ℕ) (pokes : List Poked) (n k : ℕ) → Holds w kept positions pokes n → new.program ≡ w.program → other ≡ kept
    → state_of new ≡ after w.program (state_of w) k → ((j : ℕ) → j < k → is_final (after w.program (state_of w) j).status ≡ false) → Holds new other positions pokes (n + k)
held-run {A} w new kept other positions pokes n k h e f ran runs =
    let moves : AreMoves w.program (first_of kept) pokes (n + k) = moves-more w.program (first_of kept) pokes n k h.is_kept.moves h.is_kept.poked
    (λ j lt. ap (λ (t : State). is_final (after w.program t j).status) (sym h.now) ∙ runs j lt) in
    record {
      is_kept = kept-as w.program new.program kept other positions pokes (n + k) (sym e) (sym f) (kept-more w.program kept positions pokes n (n + k) h.is_kept (omega arith) moves);
      now = ran ∙ sym (ran_at w kept positions pokes n k h) ∙ walk-as w.program new.program kept other pokes (n + k) (sym e) (sym f);
    }

pub timeline-run : {A : Type 0} (w : Whole A) (q : Program A) (kept other : List State) (positions : List ℕ) (pokes : List Poked) (n k : ℕ) → Holds w kept positions pokes n → q ≡ w.program → other ≡ kept
    → timeline_at q (first_of other) pokes (n + k) ≡ moved w.program k (timeline_at w.program (first_of kept) pokes n)
timeline-run w q kept other positions pokes n k h e f =
    timeline-as q w.program other kept pokes (n + k) e f ∙ sym (moved-walk w.program (first_of kept) pokes n k (no-poke pokes n k h.is_kept.poked))

pub running-run : {A : Type 0} (w : Whole A) (kept : List State) (positions : List ℕ) (pokes : List Poked) (n j : ℕ) → Holds w kept positions pokes n → is_final (after w.program (state_of w) j).status ≡ false
    → at_end (moved w.program j (timeline_at w.program (first_of kept) pokes n)) ≡ false
running-run w kept positions pokes n j h runs =
    ap at_end (moved-walk w.program (first_of kept) pokes n j (no-poke pokes n j h.is_kept.poked)) ∙ ap (λ (t : State). is_final t.status) (ran_at w kept positions pokes n j h) ∙ runs

-- the end of the run, as the machine tells it
pub over-run : {A : Type 0} (new : Whole A) (q : Program A) (kept : List State) (positions : List ℕ) (pokes : List Poked) (n r count : ℕ) → Holds new kept positions pokes n → q ≡ new.program
    → (r ≡ count) ⊎ (is_final (state_of new).status ≡ true) → (r ≡ count) ⊎ (at_end (timeline_at q (first_of kept) pokes n) ≡ true)
over-run new q kept positions pokes n r count h e (inl all) = inl all
over-run {A} new q kept positions pokes n r count h e (inr over) =
    inr (ap (λ (r : Program A). is_final (walk r (first_of kept) pokes n).status) e ∙ ap (λ (t : State). is_final t.status) (sym h.now) ∙ over)

-- where no step was made
pub some-run : {A : Type 0} (new : Whole A) (q : Program A) (kept : List State) (positions : List ℕ) (pokes : List Poked) (n count : ℕ) → Holds new kept positions pokes n → q ≡ new.program
    → (count ≡ 0) ⊎ (is_final (state_of new).status ≡ true) → (count ≡ 0) ⊎ (at_end (timeline_at q (first_of kept) pokes n) ≡ true)
some-run new q kept positions pokes n count h e (inl none) = inl none
some-run {A} new q kept positions pokes n count h e (inr over) =
    inr (ap (λ (r : Program A). is_final (walk r (first_of kept) pokes n).status) e ∙ ap (λ (t : State). is_final t.status) (sym h.now) ∙ over)

-- ---- after a jump back

pub reached : {A : Type 0} (p : Program A) (kept : List State) (positions : List ℕ) (pokes : List Poked) (n k : ℕ) → IsKept p kept positions pokes n → k ≤ n → Reaches p kept positions pokes k
reached p kept positions pokes n k is le = (n, le, is)

-- the same lists by other names
pub reaches-as : {A : Type 0} (p : Program A) (kept : List State) (positions other : List ℕ) (pokes made : List Poked) (k : ℕ) → other ≡ positions → made ≡ pokes → Reaches p kept positions pokes k → Reaches p kept other made k
reaches-as {A} p kept positions other pokes made k e f r = (
  r.0,
  r.1,
  subst (λ (ks : List ℕ). IsKept p kept ks made r.0) (sym e) (subst (λ (qs : List Poked). IsKept p kept positions qs r.0) (sym f) r.2),
)

-- fewer pokes and other copies, but the same states up to a position
walk-cut : {A : Type 0} (p : Program A) (kept other : List State) (positions : List ℕ) (pokes made : List Poked) (n m : ℕ) → IsKept p kept positions pokes n → m ≤ n → first_of other ≡ first_of kept → made ≡ take (count_before m pokes) pokes
    → walk p (first_of kept) pokes m ≡ walk p (first_of other) made m
walk-cut p kept other positions pokes made n m is le first cut =
    walk-same p (first_of kept) pokes (take (count_before m pokes) pokes) m (λ j lt. sym (front-same 0 pokes n m j is.poked lt))
    ∙ ap (λ (qs : List Poked). walk p (first_of kept) qs m) (sym cut)
    ∙ ap (λ (s : State). walk p s made m) (sym first)

pub held-cut : {A : Type 0} (p : Program A) (new : Whole A) (kept other : List State) (positions more : List ℕ) (pokes made : List Poked) (n m : ℕ) → IsKept p kept positions pokes n → m ≤ n → new.program ≡ p
    → state_of new ≡ walk p (first_of kept) pokes m → first_of other ≡ first_of kept → made ≡ take (count_before m pokes) pokes → IsKept p other more made m → Holds new other more made m
held-cut {A} p new kept other positions more pokes made n m is le e at first cut still = record {
  is_kept = subst (λ (r : Program A). IsKept r other more made m) (sym e) still;
  now = at ∙ walk-cut p kept other positions pokes made n m is le first cut ∙ ap (λ (r : Program A). walk r (first_of other) made m) (sym e);
}

pub timeline-cut : {A : Type 0} (p q : Program A) (kept other : List State) (positions : List ℕ) (pokes made : List Poked) (n m k : ℕ) → IsKept p kept positions pokes n → k + m ≡ n → q ≡ p
    → first_of other ≡ first_of kept → made ≡ take (count_before m pokes) pokes → timeline_at q (first_of other) made m ≡ gone k (timeline_at p (first_of kept) pokes n)
timeline-cut {A} p q kept other positions pokes made n m k is sum e first cut =
    let fewer : List Poked = take (count_before m pokes) pokes in
    ap (λ (qs : List Poked). timeline_at q (first_of other) qs m) cut
    ∙ ap (λ (r : Program A). timeline_at r (first_of other) fewer m) e
    ∙ ap (λ (s : State). timeline_at p s fewer m) first
    ∙ timeline-same p (first_of kept) fewer pokes m (λ j lt. front-same 0 pokes n m j is.poked lt)
    ∙ sym (gone-walk p (first_of kept) pokes k m n sum)

-- ---- after a jump forward to a copy

pub held-skip : {A : Type 0} (w new : Whole A) (kept other : List State) (positions : List ℕ) (pokes : List Poked) (n i k : ℕ) → Holds w kept positions pokes n → new.program ≡ w.program → other ≡ kept → slice_get positions i ≡ Some k → n ≤ k
    → slice_get kept i ≡ Some (state_of new) → Holds new other positions pokes k
held-skip {A} w new kept other positions pokes n i k h e f at le there = record {
  is_kept = kept-as w.program new.program kept other positions pokes k (sym e) (sym f) (kept-more w.program kept positions pokes n k h.is_kept le (kept-moves w.program kept positions pokes n i k h.is_kept at));
  now = kept-there w.program kept positions pokes n i k (state_of new) h.is_kept at there ∙ walk-as w.program new.program kept other pokes k (sym e) (sym f);
}

pub running-skip : {A : Type 0} (w : Whole A) (kept : List State) (positions : List ℕ) (pokes : List Poked) (n i k j : ℕ) → Holds w kept positions pokes n → slice_get positions i ≡ Some k → n + j < k
    → at_end (moved w.program j (timeline_at w.program (first_of kept) pokes n)) ≡ false
running-skip w kept positions pokes n i k j h at lt =
    ap at_end (moved-walk w.program (first_of kept) pokes n j (no-poke pokes n j h.is_kept.poked))
    ∙ runs-there w.program (first_of kept) pokes k (n + j) (kept-moves w.program kept positions pokes n i k h.is_kept at) lt (no-poke pokes n (j + 1) h.is_kept.poked (n + j) (omega arith) (omega arith))

-- ---- after a poke

kept-poked : {A : Type 0} (p : Program A) (next : State) (kept : List State) (positions : List ℕ) (pokes : List Poked) (q : Poked) (n : ℕ) → IsKept p kept positions pokes n → AreUpTo n positions → q.position ≡ n → HasWidth q.poke
    → after_poke p (walk p (first_of kept) pokes n) q.poke ≡ Ok next → IsKept p kept positions (pokes ++ q ∷ []) (n + 1)
kept-poked p next kept positions pokes q n is up at wide made =
    let same : SamePokes pokes (pokes ++ q ∷ []) n = λ j lt. sym (push-before pokes q j (omega (arith, lt, at))) in
    record {
      copies = kept-same p kept positions pokes (pokes ++ q ∷ []) n same up is.copies;
      start = is.start;
      come_to = come-same p kept positions pokes (pokes ++ q ∷ []) n same up is.come_to;
      poked = poked-push 0 pokes n q is.poked at wide;
      moves = moves-push p (first_of kept) next pokes q n is.moves is.poked at made;
    }

pub held-push : {A : Type 0} (w new : Whole A) (kept other : List State) (positions : List ℕ) (pokes more : List Poked) (q : Poked) (n : ℕ) → Holds w kept positions pokes n → AreUpTo n positions → new.program ≡ w.program → other ≡ kept
    → q.position ≡ n → HasWidth q.poke → after_poke w.program (state_of w) q.poke ≡ Ok (state_of new) → more ≡ pokes ++ q ∷ [] → Holds new other positions more (n + 1)
held-push {A} w new kept other positions pokes more q n h up e f at wide made pushed =
    let there : after_poke w.program (walk w.program (first_of kept) pokes n) q.poke ≡ Ok (state_of new) = ap (λ (t : State). after_poke w.program t q.poke) (sym h.now) ∙ made in
    let one : suc n ≡ n + 1 = omega arith in
    subst (λ (qs : List Poked). Holds new other positions qs (n + 1)) (sym pushed) (record {
      is_kept = kept-as w.program new.program kept other positions (pokes ++ q ∷ []) (n + 1) (sym e) (sym f) (kept-poked w.program (state_of new) kept positions pokes q n h.is_kept up at wide there);
      now = walk-push w.program (first_of kept) (state_of new) pokes q n h.is_kept.poked at there ∙ ap (walk w.program (first_of kept) (pokes ++ q ∷ [])) one
          ∙ walk-as w.program new.program kept other (pokes ++ q ∷ []) (n + 1) (sym e) (sym f);
    })

pub timeline-pushed : {A : Type 0} (w new : Whole A) (kept other : List State) (positions : List ℕ) (pokes more : List Poked) (q : Poked) (n : ℕ) → Holds w kept positions pokes n → new.program ≡ w.program → other ≡ kept
    → q.position ≡ n → after_poke w.program (state_of w) q.poke ≡ Ok (state_of new) → more ≡ pokes ++ q ∷ []
    → to (state_of new) (timeline_at w.program (first_of kept) pokes n) ≡ timeline_at new.program (first_of other) more (n + 1)
timeline-pushed {A} w new kept other positions pokes more q n h e f at made pushed =
    let there : after_poke w.program (walk w.program (first_of kept) pokes n) q.poke ≡ Ok (state_of new) = ap (λ (t : State). after_poke w.program t q.poke) (sym h.now) ∙ made in
    timeline-push w.program (first_of kept) (state_of new) pokes q n h.is_kept.poked at there
    ∙ timeline-as w.program new.program kept other (pokes ++ q ∷ []) (n + 1) (sym e) (sym f)
    ∙ ap (λ (qs : List Poked). timeline_at new.program (first_of other) qs (n + 1)) (sym pushed)

-- ---- at the start

pub held-begun : {A : Type 0} (w new : Whole A) (kept : List State) (positions : List ℕ) (pokes : List Poked) → new ≡ w → kept ≡ state_of w ∷ [] → positions ≡ 0 ∷ [] → pokes ≡ [] → Holds new kept positions pokes 0
held-begun {A} w new kept positions pokes e f at none =
    subst (λ (x : Whole A). Holds x kept positions pokes 0) (sym e) (subst (λ (qs : List Poked). Holds w kept positions qs 0) (sym none) (record {
      is_kept = kept-begun w.program (state_of w) kept positions f at;
      now = ap (λ (ss : List State). first_of ss) (sym f) ∙ sym (walk-zero w.program (first_of kept) []);
    }))

pub timeline-begun : {A : Type 0} (w new : Whole A) (kept : List State) (pokes : List Poked) → new ≡ w → kept ≡ state_of w ∷ [] → pokes ≡ [] → timeline_at new.program (first_of kept) pokes 0 ≡ begun None (state_of w)
unfolding walked walk
timeline-begun {A} w new kept pokes e f none = ap (λ (ss : List State). timeline_at new.program (first_of ss) pokes 0) f

-- ---- positions

pub held-position : {A M : Type 0} (whole : M → Whole A) (kept : M → List State) (h : Held M) → position (held_timeline whole kept h) ≡ h.position
held-position whole kept h = at-position (whole h.machine).program (first_of (kept h.machine)) h.pokes h.position

-- up to so many moves back, and no more than were made
pub gone-by : {A M : Type 0} (whole : M → Whole A) (kept : M → List State) (h : Held M) (count target : ℕ) (u : Timeline) → target ≡ h.position - count
    → ((k : ℕ) → k + target ≡ h.position → u ≡ gone k (held_timeline whole kept h)) → u ≡ back_by count (held_timeline whole kept h)
gone-by whole kept h count target u e left =
    let long : length (held_timeline whole kept h).past ≡ h.position = walked-length (whole h.machine).program (first_of (kept h.machine)) h.pokes h.position in
    left (min count (length (held_timeline whole kept h).past)) (omega (arith, long, e))
