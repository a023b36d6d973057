-- Runs forward to an event, move by move.
use Rattle.std.proofs.Common.{◌≡◌, refl, sym, ap, ◌∙◌, subst, ℕ, zero, suc, ◌+◌, ◌<◌, ◌≤◌, Bool, true, false, cond, if◌then◌else◌, List, [], ◌∷◌, length, drop, Option, Some, None, ◌⊎◌, inl, inr, arith}
use Rattle.std.specs.Prelude.{nat_lt}
use Rattle.std.proofs.lemmas.Bool.{true≢false}
use Rattle.std.proofs.lemmas.Bool.Decides.{nat_tests}
use Rattle.std.proofs.lemmas.List.{length-take}
use borrow.Author.Count.{below_more}
use Rattle.qil_tree.specs.declared.tree.Program.{Program}
use Rattle.qil_layout.specs.declared.callee.FuncId.{FuncId}
use Rattle.qil_semantics.specs.State.{State, is_final}
use Rattle.qil_semantics.specs.Step.{step_of}
use Rattle.qil_semantics.specs.Targets.{after}
use Rattle.qil_semantics.specs.Timeline.{Timeline, forward, position, at_end, moved, newest, forgotten_of}
use Rattle.qil_compare.specs.declared.event.Kinds.{Kinds}
use Rattle.qil_compare.specs.declared.event.Told.{Told}
use Rattle.qil_compare.specs.declared.event.Found.{Found}
use Rattle.qil_compare.specs.declared.event.Found.TheVariants as founds
use Rattle.qil_compare.specs.declared.ahead.Before.{Before}
use Rattle.qil_compare.specs.Events.{Due, bytes_out, write_of, write_by, due_of, done_by, done_due, events_of}
use Rattle.qil_compare.specs.Next.{untold, AreTold, IsQuiet, AreSilent, RunsToEvent, IsNext, told_late, run_on}
use Rattle.qil_compare.specs.declared.ahead.Ahead.{Ahead}
use Rattle.qil_compare.specs.declared.ahead.Ahead.TheVariants as aheads
use Rattle.qil_compare.specs.Ahead.{writes_ahead, IsAhead, IsDue, GoesOn, IsStretch, IsKept, HasHappened}
use Rattle.qil_compare.proofs.Happening.{all_told, by_tests}

-- ---- moves

pub moved_more : {A : Type 0} (p : Program A) (k : ℕ) (t now new : Timeline) → now ≡ moved p k t → new ≡ forward p now → new ≡ moved p (k + 1) t
unfolding moved
moved_more p k t now new e f =
    let one : k + 1 ≡ suc k = omega arith in
    f ∙ (ap (λ (u : Timeline). forward p u) e ∙ ap (λ n. moved p n t) (sym one))

pub after_moved : {A : Type 0} (p : Program A) (k : ℕ) (t : Timeline) → (moved p k t).now ≡ after p t.now k
unfolding moved
after_moved p zero t = refl
after_moved p (suc k) t = ap (step_of p) (after_moved p k t)

pub after_at : {A : Type 0} (p : Program A) (k : ℕ) (t u : Timeline) → u ≡ moved p k t → u.now ≡ after p t.now k
after_at p k t u e = ap (λ (x : Timeline). x.now) e ∙ after_moved p k t

to_position : (keeps : Option ℕ) (forgotten : ℕ) (past : List State) → forgotten_of keeps forgotten past + length (newest keeps past) ≡ forgotten + length past
to_position None forgotten past = refl
to_position (Some n) forgotten past = let l = length-take n past in omega (arith, l)

moved_position : {A : Type 0} (p : Program A) (k : ℕ) (t : Timeline) → position (moved p k t) ≡ position t + k
unfolding moved
moved_position p zero t = omega arith
moved_position p (suc k) t =
    let m = moved p k t in
    let deep = moved_position p k t in
    let here = to_position m.keeps m.forgotten (m.now ∷ m.past) in
    omega (arith, deep, here)

pub position_at : {A : Type 0} (p : Program A) (k : ℕ) (t u : Timeline) → u ≡ moved p k t → position u ≡ position t + k
position_at p k t u e = ap position e ∙ moved_position p k t

pub not_true : (b : Bool) → (b ≡ true → ⊥) → b ≡ false
not_true true h = absurd (h refl)
not_true false h = refl

-- ---- on the way: k moves had no event

pub record IsSilent {A : Type 0} (p other : Program A) (kinds : Kinds) (t : Timeline) (k : ℕ) (now : Timeline) : Type 0 where
  pub moves : now ≡ moved p k t
  pub silent : AreSilent p other kinds t.now k

pub silent_begun : {A : Type 0} (p other : Program A) (kinds : Kinds) (t : Timeline) → IsSilent p other kinds t 0 t
unfolding moved
silent_begun p other kinds t = record { moves = refl; silent = λ j lt. absurd (omega (arith, lt)) }

pub silent_more : {A : Type 0} (p other : Program A) (kinds : Kinds) (k : ℕ) (t now new : Timeline) → IsSilent p other kinds t k now → at_end now ≡ false → new ≡ forward p now → events_of p other kinds now.now ≡ [] → IsSilent p other kinds t (k + 1) new
silent_more p other kinds k t now new way goes f none = record {
  moves = moved_more p k t now new way.moves f;
  silent = below_more (λ j. IsQuiet p other kinds (after p t.now j)) k way.silent (subst (λ (s : State). IsQuiet p other kinds s) (after_at p k t now way.moves) (goes, none));
}

-- ---- the events of a move

events_due : {A : Type 0} (p other : Program A) (kinds : Kinds) (s : State) (due : Due) → is_final s.status ≡ false → due_of p s.frames ≡ Some due → events_of p other kinds s ≡ done_by p other kinds due s (step_of p s)
unfolding events_of
events_due p other kinds s due goes is =
    ap (λ b. if b then [] else done_due p other kinds (due_of p s.frames) s (step_of p s)) goes ∙ ap (λ o. done_due p other kinds o s (step_of p s)) is

pub move_told : {A : Type 0} (p other : Program A) (kinds : Kinds) (s t : State) (before : Before) (r : Option Told) → is_final s.status ≡ false → t ≡ step_of p s → IsDue p kinds (due_of p s.frames) before.func before.ahead
    → before.depth ≡ length s.frames → before.written ≡ length s.output → HasHappened p other kinds before t r → AreTold p kinds t (events_of p other kinds s) r
move_told p other kinds s t before r goes here at depth output happened =
    subst (λ es. AreTold p kinds t es r)
    (ap (done_by p other kinds at.due s) here ∙ sym (events_due p other kinds s at.due goes at.due_is))
    (happened s at.due depth output at.in_func at.is_ahead)

-- what was kept of a machine, and what happened to it, is so of the state that it represents
pub kept_at : {A : Type 0} (q p : Program A) (x s : State) (kinds : Kinds) (before : Before) → q ≡ p → x ≡ s → IsKept q kinds x before → IsKept p kinds s before
kept_at {A} q p x s kinds before program same kept = subst (λ (r : Program A). IsKept r kinds s before) program (subst (λ (y : State). IsKept q kinds y before) same kept)

pub happened_at : {A : Type 0} (q p other : Program A) (x s : State) (kinds : Kinds) (before : Before) (r : Option Told) → q ≡ p → x ≡ s → HasHappened q other kinds before x r → HasHappened p other kinds before s r
happened_at {A} q p other x s kinds before r program same happened =
    subst (λ (y : Program A). HasHappened y other kinds before s r) program (subst (λ (y : State). HasHappened q other kinds before y r) same happened)

-- ---- a stretch of steps, of which only the last can have an event

not_less : (a b : ℕ) → a ≡ b → nat_lt a b ≡ false
not_less a b e = grind (arith, e, nat_tests)

asked_none : {A : Type 0} (p other : Program A) (kinds : Kinds) (s : State) (due : Due) (b : Bool) → kinds.writes ≡ b → (b ≡ true → None ≡ due.writes) → write_by p other kinds s due.writes ≡ []
asked_none p other kinds s due true on none = ap (λ b. if b then write_of p other s due.writes else []) on ∙ ap (write_of p other s) (sym (none refl))
asked_none p other kinds s due false off none = ap (λ b. if b then write_of p other s due.writes else []) off

-- a step that stays in its call, puts nothing and writes nothing that is asked for
quiet_step : {A : Type 0} (p other : Program A) (kinds : Kinds) (s : State) (id : FuncId) (ahead : Ahead) → is_final s.status ≡ false → is_final (step_of p s).status ≡ false → length (step_of p s).frames ≡ length s.frames → (step_of p s).output ≡ s.output
    → ahead ≡ aheads.Other → IsDue p kinds (due_of p s.frames) id ahead → events_of p other kinds s ≡ []
quiet_step p other kinds s id ahead goes on depth output other_is at =
    let t : State = step_of p s in
    let puts : length t.output ≡ length s.output = ap length output in
    events_due p other kinds s at.due goes at.due_is
    ∙ by_tests p other kinds at.due s t false false false false (record {
      over_is = on;
      called_is = not_less (length s.frames) (length t.frames) (sym depth);
      returned_is = not_less (length t.frames) (length s.frames) depth;
      put_is = not_less (length s.output) (length t.output) (sym puts);
    })
    ∙ asked_none p other kinds t at.due kinds.writes refl (λ asked. ap writes_ahead (sym other_is) ∙ at.is_ahead.writes asked)

goes_less : {A : Type 0} (p : Program A) (s : State) (j k : ℕ) → j ≤ k → GoesOn p s k → GoesOn p s j
goes_less p s j k le goes i lt = goes i (omega (arith, le, lt))

pub stretch_silent : {A : Type 0} (p other : Program A) (kinds : Kinds) (s : State) (before : Before) (d : ℕ) → IsStretch p kinds s before.func before.ahead before.moves → d < before.moves → GoesOn p s d → AreSilent p other kinds s d
stretch_silent p other kinds s before d stretch lt goes j less =
    let here : GoesOn p s j = goes_less p s j d (omega (arith, less)) goes in
    let next : GoesOn p s (suc j) = goes_less p s (suc j) d (omega (arith, less)) goes in
    let first : j < before.moves = omega (arith, less, lt) in
    let second : suc j < before.moves = omega (arith, less, lt) in (
      goes j (omega (arith, less)),
      quiet_step p other kinds (after p s j) before.func before.ahead (goes j (omega (arith, less))) (goes (suc j) (omega (arith, less)))
          (stretch.depth (suc j) second next ∙ sym (stretch.depth j first here)) (stretch.output (suc j) second next ∙ sym (stretch.output j first here))
          (stretch.many (omega (arith, less, lt))) (stretch.due j first here),
    )

-- all steps but the last of those that were made, and the last
pub record Strode {A : Type 0} (p other : Program A) (kinds : Kinds) (t : Timeline) (k made : ℕ) (new : Timeline) (before : Before) : Type 0 where
  pub count : ℕ
  pub count_is : made ≡ count + 1
  pub last : Timeline
  pub way : IsSilent p other kinds t (k + count) last
  pub goes : at_end last ≡ false
  pub on : new ≡ forward p last
  pub told : (r : Option Told) → HasHappened p other kinds before new.now r → AreTold p kinds new.now (events_of p other kinds last.now) r

silent_sum : {A : Type 0} (p other : Program A) (kinds : Kinds) (k d : ℕ) (t now : Timeline) → IsSilent p other kinds t k now → AreSilent p other kinds now.now d → IsSilent p other kinds t (k + d) (moved p d now)
unfolding moved
silent_sum p other kinds k zero t now way silent = let none : k ≡ k + 0 = omega arith in subst (λ n. IsSilent p other kinds t n now) none way
silent_sum p other kinds k (suc d) t now way silent =
    let deep = silent_sum p other kinds k d t now way (λ j lt. silent j (omega (arith, lt))) in
    let here = silent d (omega arith) in
    let at : (moved p d now).now ≡ after p now.now d = after_moved p d now in
    let one : (k + d) + 1 ≡ k + suc d = omega arith in
    subst (λ n. IsSilent p other kinds t n (forward p (moved p d now))) one
    (silent_more p other kinds (k + d) t (moved p d now) (forward p (moved p d now)) deep (ap (λ (s : State). is_final s.status) at ∙ here.0) refl (ap (events_of p other kinds) at ∙ here.1))

strode_by : {A : Type 0} (p other : Program A) (kinds : Kinds) (k d : ℕ) (t now new : Timeline) (before : Before) → IsSilent p other kinds t k now → IsKept p kinds now.now before → new ≡ moved p (suc d) now → d < before.moves
    → ((j : ℕ) → j < suc d → at_end (moved p j now) ≡ false) → Strode p other kinds t k (suc d) new before
unfolding moved
strode_by {A} p other kinds k d t now new before way kept moves lt running =
    let goes : GoesOn p now.now d = λ i le. ap (λ (s : State). is_final s.status) (sym (after_moved p i now)) ∙ running i (omega (arith, le)) in
    let last : Timeline = moved p d now in
    let at : after p now.now d ≡ last.now = sym (after_moved p d now) in
    let stretch = kept.ahead in
    record {
      count = d;
      count_is = omega arith;
      last = last;
      way = silent_sum p other kinds k d t now way (stretch_silent p other kinds now.now before d stretch lt goes);
      goes = running d (omega arith);
      on = moves;
      told = λ r happened. move_told p other kinds last.now new.now before r (running d (omega arith)) (ap (λ (x : Timeline). x.now) moves)
          (subst (λ (s : State). IsDue p kinds (due_of p s.frames) before.func before.ahead) at (stretch.due d lt goes))
          (kept.depth ∙ sym (stretch.depth d lt goes) ∙ ap (λ (s : State). length s.frames) at)
          (kept.output ∙ ap length (sym (stretch.output d lt goes)) ∙ ap (λ (s : State). length s.output) at) happened;
    }

-- of a run that makes a number of steps, or comes to its end
pub strode : {A : Type 0} (p other : Program A) (kinds : Kinds) (k made count : ℕ) (t now new : Timeline) (before : Before) → IsSilent p other kinds t k now → IsKept p kinds now.now before → at_end now ≡ false → new ≡ moved p made now → made ≤ count
    → count ≤ before.moves → 0 < count → ((j : ℕ) → j < made → at_end (moved p j now) ≡ false) → (made ≡ count) ⊎ (at_end new ≡ true) → Strode p other kinds t k made new before
unfolding moved
strode p other kinds k zero count t now new before way kept goes moves few most some running (inl all) = absurd (omega (arith, all, some))
strode p other kinds k zero count t now new before way kept goes moves few most some running (inr over) = absurd (true≢false (sym over ∙ ap (λ (x : Timeline). at_end x) moves ∙ goes))
strode p other kinds k (suc d) count t now new before way kept goes moves few most some running over = strode_by p other kinds k d t now new before way kept moves (omega (arith, few, most)) running

-- ---- why a run ends

pub run_event : {A : Type 0} (p other : Program A) (kinds : Kinds) (limit k : ℕ) (t now new : Timeline) (first : Told) → IsSilent p other kinds t k now → at_end now ≡ false → new ≡ forward p now → k < limit
    → AreTold p kinds new.now (events_of p other kinds now.now) (Some first) → RunsToEvent p other kinds limit t new first.told (founds.Event first.event)
run_event p other kinds limit k t now new first way goes f lt told = record {
  count = k + 1;
  moves = moved_more p k t now new way.moves f;
  few = omega (arith, lt);
  ends = (k, refl, way.silent, ap (λ (s : State). is_final s.status) (sym (after_at p k t now way.moves)) ∙ goes, ap (events_of p other kinds) (sym (after_at p k t now way.moves)) ∙ told);
}

pub run_over : {A : Type 0} (p other : Program A) (kinds : Kinds) (limit k : ℕ) (t now new : Timeline) (n : ℕ) → IsSilent p other kinds t k now → at_end now ≡ true → new ≡ now → k ≤ limit → n ≡ length now.now.output
    → RunsToEvent p other kinds limit t new n founds.Over
run_over p other kinds limit k t now new n way over same le e = record {
  count = k;
  moves = same ∙ way.moves;
  few = le;
  ends = (way.silent, ap (λ (x : Timeline). at_end x) same ∙ over, all_told kinds n new.now (e ∙ ap (λ (x : Timeline). length x.now.output) (sym same)));
}

run_limit : {A : Type 0} (p other : Program A) (kinds : Kinds) (limit k : ℕ) (t now : Timeline) (n : ℕ) → IsSilent p other kinds t k now → at_end now ≡ false → k ≡ limit → n ≡ length now.now.output → RunsToEvent p other kinds limit t now n founds.Limit
run_limit p other kinds limit k t now n way goes e at = record {
  count = k;
  moves = way.moves;
  few = omega (arith, e);
  ends = (way.silent, e, goes, all_told kinds n now.now at);
}

-- at the limit: the end, if the run is over
pub run_last : {A : Type 0} (p other : Program A) (kinds : Kinds) (limit k : ℕ) (t now : Timeline) (n : ℕ) (b : Bool) → IsSilent p other kinds t k now → at_end now ≡ b → k ≡ limit → n ≡ length now.now.output
    → RunsToEvent p other kinds limit t now n (cond b founds.Over founds.Limit)
run_last p other kinds limit k t now n true way is e at = run_over p other kinds limit k t now now n way is refl (omega (arith, e)) at
run_last p other kinds limit k t now n false way is e at = run_limit p other kinds limit k t now n way is e at

pub run_near : {A : Type 0} (p other : Program A) (kinds : Kinds) (limit : ℕ) (t u : Timeline) (n : ℕ) (found : Found) → RunsToEvent p other kinds limit t u n found → position u ≤ position t + limit
run_near p other kinds limit t u n found runs = let few = runs.few in let at = position_at p runs.count t u runs.moves in omega (arith, few, at)

-- ---- the next event

-- a byte of output that wasn't told
pub next_late : {A : Type 0} (p other : Program A) (kinds : Kinds) (limit : ℕ) (t : Timeline) (told : ℕ) (first : Told) (q : Program A) (s : State) → q ≡ p → s ≡ t.now → AreTold q kinds s (bytes_out kinds (drop told s.output)) (Some first)
    → IsNext p other kinds limit t t told first.told (founds.Event first.event)
unfolding untold
next_late {A} p other kinds limit t told first q s program same late =
    let at : AreTold p kinds t.now (bytes_out kinds (drop told t.now.output)) (Some first) =
    subst (λ (r : Program A). AreTold r kinds t.now (bytes_out kinds (drop told t.now.output)) (Some first)) program
    (subst (λ (x : State). AreTold q kinds x (bytes_out kinds (drop told x.output)) (Some first)) same late) in
    told_late first.event refl refl at

-- there is none
pub next_run : {A : Type 0} (p other : Program A) (kinds : Kinds) (limit : ℕ) (t u : Timeline) (told late : ℕ) (found : Found) (s : State) → s ≡ t.now → bytes_out kinds (drop told s.output) ≡ []
    → RunsToEvent p other kinds limit t u late found → IsNext p other kinds limit t u told late found
unfolding untold
next_run p other kinds limit t u told late found s same none runs = run_on (ap (λ (x : State). bytes_out kinds (drop told x.output)) (sym same) ∙ none) runs
