-- The events of two runs that are compared, as far as each was run.
use Rattle.std.proofs.Common.{◌≡◌, refl, sym, ap, ◌∙◌, subst, ℕ, zero, suc, ◌+◌, ◌-◌, ◌<◌, ◌≤◌, true, false, List, [], ◌∷◌, ◌++◌, length, inl, inr, Option, None, append_assoc, arith}
use Rattle.std.proofs.lemmas.Bool.{cases_lt}
use Rattle.std.proofs.lemmas.List.{length-append, append-nil}
use Rattle.qil_tree.specs.declared.tree.Program.{Program}
use Rattle.qil_semantics.specs.State.{State, is_final}
use Rattle.qil_semantics.specs.Step.{step_of}
use Rattle.qil_semantics.specs.Targets.{after}
use Rattle.qil_semantics.specs.Timeline.{Timeline, forward, moved}
use Rattle.qil_compare.specs.declared.event.Kinds.{Kinds}
use Rattle.qil_compare.specs.declared.event as code
use Rattle.qil_compare.specs.declared.event.Found.{Found}
use Rattle.qil_compare.specs.declared.event.Found.TheVariants as founds
use Rattle.qil_compare.specs.declared.comparing.Verdict.{Verdict}
use Rattle.qil_compare.specs.declared.comparing.Verdict.TheVariants as verdicts
use Rattle.qil_compare.specs.declared.comparing.Answer.{Answer}
use Rattle.qil_compare.specs.Events.{Event, events_of, events_by}
use Rattle.qil_compare.specs.Next.{event_at, untold, AreSilent, RunsToEvent, IsNext, told_late, run_on}
use Rattle.qil_compare.specs.Answer.{Run, run_of, state_after, first_events, Stands, Has, IsEvent, OneIs, Judges, IsJudged, IsSpent, IsFar, IsAnswered}
use Rattle.qil_compare.proofs.Happening.{all_told}
use Rattle.qil_compare.proofs.Walking.{after_at}

-- ---- moves, and moves after them

next_sum : (c k : ℕ) → suc c + k ≡ suc (c + k)
next_sum c k = omega arith

moved_moved : {A : Type 0} (p : Program A) (c k : ℕ) (t : Timeline) → moved p c (moved p k t) ≡ moved p (c + k) t
unfolding moved
moved_moved p zero k t = let none : 0 + k ≡ k = omega arith in ap (λ n. moved p n t) (sym none)
moved_moved p (suc c) k t = ap (λ (u : Timeline). forward p u) (moved_moved p c k t) ∙ ap (λ n. moved p n t) (sym (next_sum c k))

pub after_after : {A : Type 0} (p : Program A) (c k : ℕ) (s : State) → after p (after p s k) c ≡ after p s (c + k)
after_after p zero k s = let none : 0 + k ≡ k = omega arith in ap (after p s) (sym none)
after_after p (suc c) k s = ap (step_of p) (after_after p c k s) ∙ ap (after p s) (sym (next_sum c k))

below_suc : (P : ℕ → Type 0) (n : ℕ) → ((j : ℕ) → j < n → P j) → P n → (j : ℕ) → j < suc n → P j
below_suc P n below here j lt = elim (cases_lt j n) [
  | inl before ↦ below j before
  | inr from ↦ (let same : n ≡ j = omega (arith, lt, from) in subst P same here)
]

-- ---- events of more steps

pub events_next : {A : Type 0} (p other : Program A) (kinds : Kinds) (s : State) (k : ℕ) → events_by p other kinds s (suc k) ≡ events_by p other kinds s k ++ events_of p other kinds (after p s k)
unfolding events_by
events_next p other kinds s k = refl

-- none where the steps are silent
pub events_silent : {A : Type 0} (p other : Program A) (kinds : Kinds) (s : State) (c k : ℕ) → AreSilent p other kinds (after p s k) c → events_by p other kinds s (c + k) ≡ events_by p other kinds s k
events_silent p other kinds s zero k silent = let none : 0 + k ≡ k = omega arith in ap (events_by p other kinds s) none
events_silent p other kinds s (suc c) k silent =
    let here : events_of p other kinds (after p s (c + k)) ≡ [] = ap (events_of p other kinds) (sym (after_after p c k s)) ∙ (silent c (omega arith)).1 in
    ap (events_by p other kinds s) (next_sum c k)
    ∙ events_next p other kinds s (c + k)
    ∙ ap (λ es. events_by p other kinds s (c + k) ++ es) here
    ∙ append-nil (events_by p other kinds s (c + k))
    ∙ events_silent p other kinds s c k (λ j lt. silent j (omega (arith, lt)))

-- never fewer
events_grow : {A : Type 0} (p other : Program A) (kinds : Kinds) (s : State) (d j : ℕ) → length (events_by p other kinds s j) ≤ length (events_by p other kinds s (d + j))
events_grow p other kinds s zero j = let none : 0 + j ≡ j = omega arith in subst (λ n. length (events_by p other kinds s j) ≤ length (events_by p other kinds s n)) (sym none) (omega arith)
events_grow p other kinds s (suc d) j =
    let deep : length (events_by p other kinds s j) ≤ length (events_by p other kinds s (d + j)) = events_grow p other kinds s d j in
    let more : length (events_by p other kinds s (suc d + j)) ≡ length (events_by p other kinds s (d + j)) + length (events_of p other kinds (after p s (d + j))) =
    ap (λ n. length (events_by p other kinds s n)) (next_sum d j) ∙ ap length (events_next p other kinds s (d + j)) ∙ length-append (events_by p other kinds s (d + j)) (events_of p other kinds (after p s (d + j))) in
    omega (arith, deep, more)

pub events_at_most : {A : Type 0} (p other : Program A) (kinds : Kinds) (s : State) (j k : ℕ) → j ≤ k → length (events_by p other kinds s j) ≤ length (events_by p other kinds s k)
events_at_most p other kinds s j k le =
    let sum : (k - j) + j ≡ k = omega (arith, le) in
    subst (λ n. length (events_by p other kinds s j) ≤ length (events_by p other kinds s n)) sum (events_grow p other kinds s (k - j) j)

-- ---- a side stands behind some events, and others of its last step are still to be told

pub record Behind {A : Type 0} (r : Run A) (k : ℕ) (common rest : List Event) : Type 0 where
  pub runs : (j : ℕ) → j < k → is_final (state_after r j).status ≡ false
  pub has : first_events r k ≡ common ++ rest
  pub least : (j : ℕ) → j < k → length (first_events r j) ≤ length common

-- k is the least number of moves after which a side has so many events
abbrev pub Newly : {A : Type 0} → Run A → ℕ → List Event → Type 0
Newly r k common = (j : ℕ) → j < k → length (first_events r j) < length common

pub behind_begun : {A : Type 0} (r : Run A) (rest : List Event) → rest ≡ [] → Behind r 0 [] rest
unfolding events_by
behind_begun r rest none = record { runs = λ j lt. absurd (omega (arith, lt)); has = sym none; least = λ j lt. absurd (omega (arith, lt)) }

-- one event of the rest more
pub behind_more : {A : Type 0} (r : Run A) (k : ℕ) (common rest : List Event) (e : Event) → Behind r k common (e ∷ rest) → Behind r k (common ++ e ∷ []) rest
behind_more r k common rest e at = record {
  runs = at.runs;
  has = at.has ∙ sym (append_assoc common (e ∷ []) rest);
  least = λ j lt.
      let few = at.least j lt in
      let more = length-append common (e ∷ []) in
      omega (arith, few, more);
}

-- ---- the next event of a side

pub record Found_at {A : Type 0} (r : Run A) (limit : ℕ) (t u : Timeline) (common : List Event) (told : ℕ) (found : Found) : Type 0 where
  pub moves : ℕ
  pub moves_are : u ≡ moved r.program moves t
  pub stands : Stands r moves common found
  pub spent : found ≡ founds.Limit → IsSpent r limit moves common
  pub more : (e : code.Event.Event) → found ≡ founds.Event e → Behind r moves common (event_at r.program u.now e ∷ untold r.kinds told u.now)

found_late : {A : Type 0} (p q : Program A) (kinds : Kinds) (limit : ℕ) (t u : Timeline) (k : ℕ) (common rest : List Event) (late : ℕ) (e : code.Event.Event) → u ≡ moved p k t → Behind (run_of kinds p q t) k common rest
    → rest ≡ event_at p u.now e ∷ untold kinds late u.now → Found_at (run_of kinds p q t) limit t u common late (founds.Event e)
found_late {A} p q kinds limit t u k common rest late e moves at is =
    let here : Behind (run_of kinds p q t) k common (event_at p u.now e ∷ untold kinds late u.now) = subst (λ es. Behind (run_of kinds p q t) k common es) is at in
    record {
      moves = k;
      moves_are = moves;
      stands = record { runs = here.runs; has = (untold kinds late u.now, here.has ∙ ap (λ (s : State). common ++ (event_at p s e ∷ untold kinds late u.now)) (after_at p k t u moves)); least = here.least };
      spent = λ same. absurd cc;
      more = λ d same. let one : e ≡ d = cc in subst (λ (x : code.Event.Event). Behind (run_of kinds p q t) k common (event_at p u.now x ∷ untold kinds late u.now)) one here;
    }

-- after c silent moves more there are the same events
record StillBehind {A : Type 0} (p q : Program A) (kinds : Kinds) (t : Timeline) (n : ℕ) (common : List Event) : Type 0 where
  runs : (j : ℕ) → j < n → is_final (after p t.now j).status ≡ false
  has : events_by p q kinds t.now n ≡ common
  least : (j : ℕ) → j < suc n → length (events_by p q kinds t.now j) ≤ length common

still_behind : {A : Type 0} (p q : Program A) (kinds : Kinds) (t u : Timeline) (k c : ℕ) (common rest : List Event) → u ≡ moved p k t → Behind (run_of kinds p q t) k common rest → rest ≡ [] → AreSilent p q kinds u.now c
    → StillBehind p q kinds t (c + k) common
still_behind {A} p q kinds t u k c common rest moves at none silent =
    let first : events_by p q kinds t.now k ≡ common = at.has ∙ ap (λ es. common ++ es) none ∙ append-nil common in
    let on : AreSilent p q kinds (after p t.now k) c = subst (λ (s : State). AreSilent p q kinds s c) (after_at p k t u moves) silent in
    let all : events_by p q kinds t.now (c + k) ≡ common = events_silent p q kinds t.now c k on ∙ first in
    record {
      runs = λ j lt. elim (cases_lt j k) [
        | inl before ↦ at.runs j before
        | inr from ↦
            let sum : (j - k) + k ≡ j = omega (arith, from) in
            subst (λ n. is_final (after p t.now n).status ≡ false) sum
            (subst (λ (s : State). is_final s.status ≡ false) (after_after p (j - k) k t.now) (on (j - k) (omega (arith, lt, from))).0)
      ];
      has = all;
      least = λ j lt.
          let few : length (events_by p q kinds t.now j) ≤ length (events_by p q kinds t.now (c + k)) = events_at_most p q kinds t.now j (c + k) (omega (arith, lt)) in
          subst (λ (es : List Event). length (events_by p q kinds t.now j) ≤ length es) all few;
    }

-- what the run's end is, once its moves are counted from the start
found_event : {A : Type 0} (p q : Program A) (kinds : Kinds) (limit : ℕ) (t u v : Timeline) (k i : ℕ) (common rest : List Event) (late : ℕ) (e : code.Event.Event) → u ≡ moved p k t → Behind (run_of kinds p q t) k common rest → rest ≡ [] → v ≡ moved p (suc i) u
    → AreSilent p q kinds u.now i → is_final (after p u.now i).status ≡ false → events_of p q kinds (after p u.now i) ≡ event_at p v.now e ∷ untold kinds late v.now → Found_at (run_of kinds p q t) limit t v common late (founds.Event e)
found_event {A} p q kinds limit t u v k i common rest late e moves at none on silent goes is =
    let still : StillBehind p q kinds t (i + k) common = still_behind p q kinds t u k i common rest moves at none silent in
    let n : ℕ = suc (i + k) in
    let there : v ≡ moved p n t = on ∙ ap (moved p (suc i)) moves ∙ moved_moved p (suc i) k t ∙ ap (λ m. moved p m t) (next_sum i k) in
    let place : after p u.now i ≡ after p t.now (i + k) = ap (λ (s : State). after p s i) (after_at p k t u moves) ∙ after_after p i k t.now in
    let all : events_by p q kinds t.now n ≡ common ++ (event_at p v.now e ∷ untold kinds late v.now) =
    events_next p q kinds t.now (i + k) ∙ (λ x. still.has x ++ events_of p q kinds (sym place x)) ∙ ap (λ es. common ++ es) is in
    let last : is_final (after p t.now (i + k)).status ≡ false = subst (λ (s : State). is_final s.status ≡ false) place goes in
    let runs : (j : ℕ) → j < suc (i + k) → is_final (after p t.now j).status ≡ false = below_suc (λ j. is_final (after p t.now j).status ≡ false) (i + k) still.runs last in
    let here : Behind (run_of kinds p q t) n common (event_at p v.now e ∷ untold kinds late v.now) = record { runs = runs; has = all; least = still.least } in
    record {
      moves = n;
      moves_are = there;
      stands = record { runs = runs; has = (untold kinds late v.now, all ∙ ap (λ (s : State). common ++ (event_at p s e ∷ untold kinds late v.now)) (after_at p n t v there)); least = still.least };
      spent = λ same. absurd cc;
      more = λ d same. let one : e ≡ d = cc in subst (λ (x : code.Event.Event). Behind (run_of kinds p q t) n common (event_at p v.now x ∷ untold kinds late v.now)) one here;
    }

no_event : {X : Type 0} (found : Found) (e : code.Event.Event) → (IsEvent found → ⊥) → found ≡ founds.Event e → X
no_event found e none same = absurd (none (subst IsEvent (sym same) tt))

-- of a run that ended without an event
found_none : {A : Type 0} (p q : Program A) (kinds : Kinds) (limit : ℕ) (t u v : Timeline) (k c : ℕ) (common rest : List Event) (late : ℕ) (found : Found) → u ≡ moved p k t → Behind (run_of kinds p q t) k common rest → rest ≡ [] → v ≡ moved p c u
    → AreSilent p q kinds u.now c → (IsEvent found → ⊥) → ((n : ℕ) → v ≡ moved p n t → events_by p q kinds t.now n ≡ common → Has (run_of kinds p q t) n common found) → (found ≡ founds.Limit → IsSpent (run_of kinds p q t) limit (c + k) common) → Found_at (run_of kinds p q t) limit t v common late found
found_none {A} p q kinds limit t u v k c common rest late found moves at none on silent ends has spent =
    let still : StillBehind p q kinds t (c + k) common = still_behind p q kinds t u k c common rest moves at none silent in
    let there : v ≡ moved p (c + k) t = on ∙ ap (moved p c) moves ∙ moved_moved p c k t in
    record {
      moves = c + k;
      moves_are = there;
      stands = record { runs = still.runs; has = has (c + k) there still.has; least = λ j lt. still.least j (omega (arith, lt)) };
      spent = spent;
      more = λ e same. no_event found e ends same;
    }

-- at the limit k moves had led to the last event
spent_run : {A : Type 0} (p q : Program A) (kinds : Kinds) (limit : ℕ) (t u v : Timeline) (k c : ℕ) (common rest : List Event) → u ≡ moved p k t → Behind (run_of kinds p q t) k common rest → Newly (run_of kinds p q t) k common → rest ≡ [] → v ≡ moved p c u
    → AreSilent p q kinds u.now c → c ≡ limit → is_final v.now.status ≡ false → IsSpent (run_of kinds p q t) limit (c + k) common
spent_run {A} p q kinds limit t u v k c common rest moves at newly none on silent count goes =
    let still : StillBehind p q kinds t (c + k) common = still_behind p q kinds t u k c common rest moves at none silent in
    let there : v ≡ moved p (c + k) t = on ∙ ap (moved p c) moves ∙ moved_moved p c k t in
    record {
      last = k;
      moves = omega (arith, count);
      has_all = at.has ∙ ap (λ es. common ++ es) none ∙ append-nil common;
      least = newly;
      none = still.has;
      goes_on = subst (λ (s : State). is_final s.status ≡ false) (after_at p (c + k) t v there) goes;
    }

found_run : {A : Type 0} (p q : Program A) (kinds : Kinds) (limit : ℕ) (t u v : Timeline) (k : ℕ) (common rest : List Event) (late : ℕ) (found : Found) → u ≡ moved p k t → Behind (run_of kinds p q t) k common rest → Newly (run_of kinds p q t) k common → rest ≡ []
    → RunsToEvent p q kinds limit u v late found → Found_at (run_of kinds p q t) limit t v common late found
found_run p q kinds limit t u v k common rest late (founds.Event e) moves at newly none runs =
    let i : ℕ = runs.ends.0 in
    let count : runs.count ≡ suc i = (let is = runs.ends.1 in omega (arith, is)) in
    found_event p q kinds limit t u v k i common rest late e moves at none (runs.moves ∙ ap (λ n. moved p n u) count) runs.ends.2 runs.ends.3 runs.ends.4
found_run {A} p q kinds limit t u v k common rest late founds.Over moves at newly none runs =
    found_none p q kinds limit t u v k runs.count common rest late founds.Over moves at none runs.moves runs.ends.0 (λ is. absurd is)
    (λ n there has. (has, subst (λ (s : State). is_final s.status ≡ true) (after_at p n t v there) runs.ends.1)) (λ same. absurd cc)
found_run p q kinds limit t u v k common rest late founds.Limit moves at newly none runs =
    found_none p q kinds limit t u v k runs.count common rest late founds.Limit moves at none runs.moves runs.ends.0 (λ is. absurd is) (λ n there has. ([], has ∙ sym (append-nil common)))
    (λ same. spent_run p q kinds limit t u v k runs.count common rest moves at newly none runs.moves runs.ends.0 runs.ends.1 runs.ends.2)

pub found_next : {A : Type 0} (p q : Program A) (kinds : Kinds) (limit : ℕ) (t u v : Timeline) (k : ℕ) (common : List Event) (told late : ℕ) (found : Found) → u ≡ moved p k t → Behind (run_of kinds p q t) k common (untold kinds told u.now)
    → Newly (run_of kinds p q t) k common → IsNext p q kinds limit u v told late found → Found_at (run_of kinds p q t) limit t v common late found
found_next {A} p q kinds limit t u v k common told late found moves at newly (told_late e is same rest) =
    subst (λ (f : Found). Found_at (run_of kinds p q t) limit t v common late f) (sym is)
    (found_late p q kinds limit t v k common (untold kinds told u.now) late e (same ∙ moves) at (rest ∙ (λ i. event_at p (sym same i).now e ∷ untold kinds late (sym same i).now)))
found_next p q kinds limit t u v k common told late found moves at newly (run_on none runs) = found_run p q kinds limit t u v k common (untold kinds told u.now) late found moves at newly none runs

-- ---- both sides

-- so far both had the same n events
pub record AreAlike {A : Type 0} (kinds : Kinds) (p q : Program A) (t u w v : Timeline) (n told late : ℕ) : Type 0 where
  pub common : List Event
  pub count : length common ≡ n
  pub good_moves : ℕ
  pub good_is : u ≡ moved p good_moves t
  pub good : Behind (run_of kinds p q t) good_moves common (untold kinds told u.now)
  pub good_newly : Newly (run_of kinds p q t) good_moves common
  pub bad_moves : ℕ
  pub bad_is : v ≡ moved q bad_moves w
  pub bad : Behind (run_of kinds q p w) bad_moves common (untold kinds late v.now)
  pub bad_newly : Newly (run_of kinds q p w) bad_moves common

pub alike_begun : {A : Type 0} (kinds : Kinds) (p q : Program A) (t w : Timeline) (told late : ℕ) → told ≡ length t.now.output → late ≡ length w.now.output → AreAlike kinds p q t t w w 0 told late
unfolding moved
alike_begun kinds p q t w told late et ew = record {
  common = [];
  count = refl;
  good_moves = 0;
  good_is = refl;
  good = behind_begun (run_of kinds p q t) (untold kinds told t.now) (all_told kinds told t.now et);
  good_newly = λ j lt. absurd (omega (arith, lt));
  bad_moves = 0;
  bad_is = refl;
  bad = behind_begun (run_of kinds q p w) (untold kinds late w.now) (all_told kinds late w.now ew);
  bad_newly = λ j lt. absurd (omega (arith, lt));
}

-- no further event is looked for
pub limited : {A : Type 0} (kinds : Kinds) (limit : ℕ) (p q : Program A) (t u w v : Timeline) (n told late : ℕ) (answer : Answer) → AreAlike kinds p q t u w v n told late → IsFar n u v
    → answer ≡ record { events = n; verdict = verdicts.Limit; good = founds.Limit; bad = founds.Limit } → IsAnswered kinds limit p q t u w v answer
limited {A} kinds limit p q t u w v n told late answer alike far is =
    subst (λ (a : Answer). IsAnswered kinds limit p q t u w v a) (sym is) (record {
      good_moves = alike.good_moves;
      good_is = alike.good_is;
      bad_moves = alike.bad_moves;
      bad_is = alike.bad_is;
      stand = record {
        common = alike.common;
        count = alike.count;
        good_side = record { runs = alike.good.runs; has = (untold kinds told u.now, alike.good.has); least = alike.good.least };
        bad_side = record { runs = alike.bad.runs; has = (untold kinds late v.now, alike.bad.has); least = alike.bad.least };
      };
      good_limit = λ same. inr far;
      bad_limit = λ same. inr far;
      judged = inl refl;
    })

-- what both found, after n events that are the same
pub record BothFound {A : Type 0} (kinds : Kinds) (limit : ℕ) (p q : Program A) (t u w v : Timeline) (n told late : ℕ) (good bad : Found) : Type 0 where
  pub common : List Event
  pub count : length common ≡ n
  pub good_found : Found_at (run_of kinds p q t) limit t u common told good
  pub bad_found : Found_at (run_of kinds q p w) limit w v common late bad

pub both_found : {A : Type 0} (kinds : Kinds) (p q : Program A) (limit : ℕ) (t u x w v y : Timeline) (n told late now_told now_late : ℕ) (good bad : Found) → AreAlike kinds p q t u w v n told late
    → IsNext p q kinds limit u x told now_told good → IsNext q p kinds limit v y late now_late bad → BothFound kinds limit p q t x w y n now_told now_late good bad
both_found kinds p q limit t u x w v y n told late now_told now_late good bad alike one other = record {
  common = alike.common;
  count = alike.count;
  good_found = found_next p q kinds limit t u x alike.good_moves alike.common told now_told good alike.good_is alike.good alike.good_newly one;
  bad_found = found_next q p kinds limit w v y alike.bad_moves alike.common late now_late bad alike.bad_is alike.bad alike.bad_newly other;
}

pub answered : {A : Type 0} (kinds : Kinds) (limit : ℕ) (p q : Program A) (t u w v : Timeline) (n told late : ℕ) (good bad : Found) (verdict : Verdict) → BothFound kinds limit p q t u w v n told late good bad → IsJudged p q u.now v.now good bad verdict
    → IsAnswered kinds limit p q t u w v (record { events = n; verdict = verdict; good = good; bad = bad })
answered kinds limit p q t u w v n told late good bad verdict found judged = record {
  good_moves = found.good_found.moves;
  good_is = found.good_found.moves_are;
  bad_moves = found.bad_found.moves;
  bad_is = found.bad_found.moves_are;
  stand = record { common = found.common; count = found.count; good_side = found.good_found.stands; bad_side = found.bad_found.stands };
  good_limit = λ same. inl (found.good_found.spent same);
  bad_limit = λ same. inl (found.bad_found.spent same);
  judged = judged;
}

alike_events : {A : Type 0} (kinds : Kinds) (limit : ℕ) (p q : Program A) (t u w v : Timeline) (n told late : ℕ) (e d : code.Event.Event) → BothFound kinds limit p q t u w v n told late (founds.Event e) (founds.Event d) → event_at p u.now e ≡ event_at q v.now d
    → AreAlike kinds p q t u w v (n + 1) told late
alike_events {A} kinds limit p q t u w v n told late e d found same =
    let x : Event = event_at p u.now e in
    let good : Behind (run_of kinds p q t) found.good_found.moves found.common (x ∷ untold kinds told u.now) = found.good_found.more e refl in
    let bad : Behind (run_of kinds q p w) found.bad_found.moves found.common (x ∷ untold kinds late v.now) =
    subst (λ (y : Event). Behind (run_of kinds q p w) found.bad_found.moves found.common (y ∷ untold kinds late v.now)) (sym same) (found.bad_found.more d refl) in
    let count : length (found.common ++ x ∷ []) ≡ n + 1 = (let sum = length-append found.common (x ∷ []) in let all = found.count in omega (arith, sum, all)) in
    record {
      common = found.common ++ x ∷ [];
      count = count;
      good_moves = found.good_found.moves;
      good_is = found.good_found.moves_are;
      good = behind_more (run_of kinds p q t) found.good_found.moves found.common (untold kinds told u.now) x good;
      good_newly = λ j lt. (let few = good.least j lt in let one = length-append found.common (x ∷ []) in omega (arith, few, one));
      bad_moves = found.bad_found.moves;
      bad_is = found.bad_found.moves_are;
      bad = behind_more (run_of kinds q p w) found.bad_found.moves found.common (untold kinds late v.now) x bad;
      bad_newly = λ j lt. (let few = bad.least j lt in let one = length-append found.common (x ∷ []) in omega (arith, few, one));
    }

-- both have the same event next
pub alike_more : {A : Type 0} (kinds : Kinds) (limit : ℕ) (p q : Program A) (t u w v : Timeline) (n told late : ℕ) (good bad : Found) → BothFound kinds limit p q t u w v n told late good bad → Judges p q u.now v.now good bad None
    → AreAlike kinds p q t u w v (n + 1) told late
alike_more kinds limit p q t u w v n told late (founds.Event e) (founds.Event d) found judged = alike_events kinds limit p q t u w v n told late e d found judged.2
alike_more kinds limit p q t u w v n told late (founds.Event e) founds.Over found judged = absurd judged.1
alike_more kinds limit p q t u w v n told late (founds.Event e) founds.Limit found judged = absurd judged.1
alike_more kinds limit p q t u w v n told late founds.Over bad found judged = absurd judged.0
alike_more kinds limit p q t u w v n told late founds.Limit bad found judged = absurd judged.0

-- ---- what code says of histories, of the programs and the kinds that the comparison is of

pub next_as : {A : Type 0} (p p' q q' : Program A) (kinds kinds' : Kinds) (limit : ℕ) (t u : Timeline) (told late : ℕ) (found : Found) → p' ≡ p → q' ≡ q → kinds' ≡ kinds → IsNext p' q' kinds' limit t u told late found
    → IsNext p q kinds limit t u told late found
next_as {A} p p' q q' kinds kinds' limit t u told late found ep eq ek next =
    subst (λ (x : Program A). IsNext x q kinds limit t u told late found) ep
    (subst (λ (x : Program A). IsNext p' x kinds limit t u told late found) eq (subst (λ (k : Kinds). IsNext p' q' k limit t u told late found) ek next))

pub judges_as : {A : Type 0} (p p' q q' : Program A) (s t : State) (good bad : Found) (o r : Option Verdict) → p' ≡ p → q' ≡ q → o ≡ r → Judges p' q' s t good bad o → Judges p q s t good bad r
judges_as {A} p p' q q' s t good bad o r ep eq er judged =
    subst (λ (x : Program A). Judges x q s t good bad r) ep (subst (λ (x : Program A). Judges p' x s t good bad r) eq (subst (λ (v : Option Verdict). Judges p' q' s t good bad v) er judged))
