-- The report on two runs doesn't depend on what is kept of their moves.
use Rattle.std.proofs.Common.{◌≡◌, ◌≢◌, refl, sym, ap, ◌∙◌, subst, ℕ, zero, suc, ◌+◌, ◌<◌, ◌≤◌, ◌^◌, ◌⊎◌, inl, inr, Bool, true, false, cond, List, [], ◌++◌, Option, Some, None, arith}
use Rattle.std.specs.Prelude.{Ok, ◌==◌, Result, codes, is_some}
use Rattle.std.specs.Option.{option_or}
use Rattle.std.proofs.lemmas.Bool.{true≢false, cases_lt}
use Rattle.qil_tree.specs.declared.tree.Program.{Program}
use Rattle.qil_semantics.specs.State.{State, is_final}
use Rattle.qil_semantics.specs.Start.{start_of}
use Rattle.qil_semantics.specs.Targets.{after}
use Rattle.qil_semantics.specs.Timeline.{Timeline, begun, moved, position, at_end}
use Rattle.qil_semantics.specs.Stops.{Numbered, stopped, first_watch, first_break}
use Rattle.qil_semantics.specs.Runs.{if_holds, within, stop_on, stopping, IsLeast, RunsOn}
use Rattle.qil_semantics.specs.declared.start.StartFault.{StartFault}
use Rattle.qil_semantics.specs.declared.reason.Reason.{Reason}
use Rattle.qil_semantics.specs.declared.reason.Reason.TheVariants.{End, Watch, Break, Start, Oldest, Limit, Memory}
use Rattle.qil_semantics.proofs.OnLemmas.{is_equal, unequal}
use Rattle.qil_state.specs.State.{Whole, state_of}
use Rattle.qil_stops.specs.Named.{named_stops}
use Rattle.qil_render.specs.Texts.{state_line}
use Rattle.qil_render.specs.Shown.{frames_shown}
use Rattle.qil_render.specs.Listing.{block_shown}
use Rattle.qil_compare.specs.declared.event.Found.{Found}
use Rattle.qil_compare.specs.declared.event.Found.TheVariants as founds
use Rattle.qil_compare.specs.declared.comparing.Verdict.{Verdict}
use Rattle.qil_compare.specs.declared.comparing.Verdict.TheVariants as verdicts
use Rattle.qil_compare.specs.declared.comparing.Answer.{Answer}
use Rattle.qil_compare.specs.Events.{Event}
use Rattle.qil_compare.specs.Answer.{Run, run_of, IsFar, IsSpent, IsLimited, IsJudged, IsAnswered}
use Rattle.qil_compare.proofs.Walking.{after_at, after_moved, position_at}
use Rattle.qil_comparison.specs.declared.request.Request.{Request}
use Rattle.qil_comparison.specs.Told.{found_line, way_line, side_text, verdict_line, sides_text, answer_text, told_text}
use Rattle.qil_comparison.specs.declared.outcome.Outcome.{Outcome}
use Rattle.qil_comparison.specs.Compared.{session_on}
use Rattle.qil_comparison.specs.Handed.{GoesTo, IsReported, IsServedAt}

-- ---- the text

side_same : {A : Type 0} (name : List ℕ) (p P : Program A) (t u : Timeline) (found : Found) → p ≡ P → position t ≡ position u → t.now ≡ u.now → side_text name p t found ≡ side_text name P u found
side_same name p P t u found ep at now = λ i.
    name ++ (found_line (ep i) (now i) found
    ++ (state_line (at i) (now i).frames (now i).status ++ (frames_shown (now i).frames ++ (block_shown (ep i) (now i).frames ++ way_line (at i)))))

sides_same : {A : Type 0} (p P q Q : Program A) (t t' u u' : Timeline) (answer : Answer) → p ≡ P → q ≡ Q → position t ≡ position t' → t.now ≡ t'.now → position u ≡ position u' → u.now ≡ u'.now
    → verdict_line answer.verdict answer.events ++ sides_text p q t u answer ≡ verdict_line answer.verdict answer.events ++ sides_text P Q t' u' answer
sides_same p P q Q t t' u u' answer ep eq at now bt bow =
    let good = side_same (codes "good: ") p P t t' answer.good ep at now in
    let bad = side_same (codes "bad: ") q Q u u' answer.bad eq bt bow in
    λ i. verdict_line answer.verdict answer.events ++ (good i ++ bad i)

told_by : {A : Type 0} (p P q Q : Program A) (t t' u u' : Timeline) (verdict : Verdict) (answer : Answer) → p ≡ P → q ≡ Q → position t ≡ position t' → t.now ≡ t'.now → position u ≡ position u' → u.now ≡ u'.now
    → answer_text p q t u verdict answer ≡ answer_text P Q t' u' verdict answer
told_by p P q Q t t' u u' verdicts.Same answer ep eq at now bt bow = refl
told_by p P q Q t t' u u' verdicts.Part answer ep eq at now bt bow = sides_same p P q Q t t' u u' answer ep eq at now bt bow
told_by p P q Q t t' u u' verdicts.Limit answer ep eq at now bt bow = sides_same p P q Q t t' u u' answer ep eq at now bt bow

-- ---- the answer

far_same : (n : ℕ) (u v u' v' : Timeline) → position u ≡ position u' → position v ≡ position v' → IsFar n u v → IsFar n u' v'
far_same n u v u' v' eu ev (inl far) = inl (omega (arith, far, eu))
far_same n u v u' v' eu ev (inr (inl far)) = inr (inl (omega (arith, far, ev)))
far_same n u v u' v' eu ev (inr (inr many)) = inr (inr many)

limited_same : {A : Type 0} (r : Run A) (limit k : ℕ) (common : List Event) (n : ℕ) (u v u' v' : Timeline) (found : Found) → position u ≡ position u' → position v ≡ position v' → IsLimited r limit k common n u v found → IsLimited r limit k common n u' v' found
limited_same r limit k common n u v u' v' found eu ev limited e = elim (limited e) [
  | inl spent ↦ inl spent
  | inr far ↦ inr (far_same n u v u' v' eu ev far)
]

-- a timeline that began with nothing made as many moves as its position says
count_is : {A : Type 0} (p : Program A) (k : ℕ) (t u : Timeline) → u ≡ moved p k t → position t ≡ 0 → position u ≡ k
count_is p k t u e start = let at = position_at p k t u e in omega (arith, at, start)

-- the same moves from the same state, whatever is kept
record Beside {A : Type 0} (p : Program A) (t u : Timeline) (keeps : Option ℕ) : Type 0 where
  at : position u ≡ position (moved p (position u) (begun keeps t.now))
  now : u.now ≡ (moved p (position u) (begun keeps t.now)).now

beside : {A : Type 0} (p : Program A) (k : ℕ) (t u : Timeline) (keeps : Option ℕ) → u ≡ moved p k t → position t ≡ 0 → Beside p t u keeps
beside p k t u keeps e start =
    let n : ℕ = position u in
    let w : Timeline = moved p n (begun keeps t.now) in
    let count : n ≡ k = count_is p k t u e start in
    let there : position w ≡ position (begun keeps t.now) + n = position_at p n (begun keeps t.now) w refl in
    record {
      at = omega (arith, there);
      now = after_at p k t u e ∙ ap (after p t.now) (sym count) ∙ sym (after_moved p n (begun keeps t.now));
    }

pub reported : {A : Type 0} (r : Request) (p q P Q : Program A) (t u w v : Timeline) (answer : Answer) → P ≡ p → Q ≡ q → position t ≡ 0 → position w ≡ 0 → position u < 2 ^ 60 → position v < 2 ^ 60
    → IsAnswered r.kinds r.limit p q t u w v answer → IsReported r p q t.now w.now (position u) (position v) answer (told_text P Q u v answer)
reported {A} r p q P Q t u w v answer ep eq start begin near far a = record {
  answered = λ keeps others.
      let good = beside p a.good_moves t u keeps a.good_is start in
      let bad = beside q a.bad_moves w v others a.bad_is begin in
      record {
        good_moves = a.good_moves;
        good_is = ap (λ n. moved p n (begun keeps t.now)) (count_is p a.good_moves t u a.good_is start);
        bad_moves = a.bad_moves;
        bad_is = ap (λ n. moved q n (begun others w.now)) (count_is q a.bad_moves w v a.bad_is begin);
        stand = a.stand;
        good_limit = limited_same _ r.limit a.good_moves a.stand.common answer.events u v (moved p (position u) (begun keeps t.now)) (moved q (position v) (begun others w.now)) answer.good good.at bad.at a.good_limit;
        bad_limit = limited_same _ r.limit a.bad_moves a.stand.common answer.events u v (moved p (position u) (begun keeps t.now)) (moved q (position v) (begun others w.now)) answer.bad good.at bad.at a.bad_limit;
        judged = subst (λ (x : State). IsJudged p q x (moved q (position v) (begun others w.now)).now answer.good answer.bad answer.verdict) good.now
            (subst (λ (x : State). IsJudged p q u.now x answer.good answer.bad answer.verdict) bad.now a.judged);
      };
  told = λ keeps others.
      let good = beside p a.good_moves t u keeps a.good_is start in
      let bad = beside q a.bad_moves w v others a.bad_is begin in
      told_by P p Q q u (moved p (position u) (begun keeps t.now)) v (moved q (position v) (begun others w.now)) answer.verdict answer ep eq good.at good.now bad.at bad.now;
  good_goes = (near, λ j lt. a.stand.good_side.runs j (let count = count_is p a.good_moves t u a.good_is start in omega (arith, lt, count)));
  bad_goes = (far, λ j lt. a.stand.bad_side.runs j (let count = count_is q a.bad_moves w v a.bad_is begin in omega (arith, lt, count)));
}

-- ---- a run without stops, as far as it goes on

none_stops : (stops : List Numbered) (a b : State) → stops ≡ [] → stopped stops a b ≡ None
unfolding stopped first_watch first_break
none_stops stops a b e = ap (λ (xs : List Numbered). stopped xs a b) e

none_on : {A : Type 0} (p : Program A) (stops : List Numbered) (t : Timeline) (k : ℕ) → stops ≡ [] → at_end (moved p k t) ≡ false → stop_on p stops t k ≡ None
unfolding stop_on moved
none_on p stops t zero e goes = ap (λ b. if_holds b End) goes
none_on p stops t (suc k) e goes =
    (λ i. option_or (if_holds (goes i) End) (none_stops stops (moved p k t).now (moved p (suc k) t).now e i))

only_memory : (reason : Reason) → stopping reason ≡ None → reason ≡ Memory
only_memory Memory e = refl
only_memory End e = absurd cc
only_memory (Watch n) e = absurd cc
only_memory (Break n) e = absurd cc
only_memory Start e = absurd cc
only_memory Oldest e = absurd cc
only_memory Limit e = absurd cc

not_short : (reason : Reason) (limit k : ℕ) (o : Option Reason) → o ≡ None → k < limit → within limit k o ≡ stopping reason → reason ≡ Memory
not_short reason limit k o none lt e =
    let stays : within limit k o ≡ None = (λ i. option_or (none i) (if_holds (unequal k limit lt i) Limit)) in
    only_memory reason (sym e ∙ stays)

not_none : (o : Option Reason) (limit : ℕ) → within limit limit o ≡ None → ⊥
not_none None limit e = (let there : if_holds true Limit ≡ None = ap (λ b. if_holds b Limit) (sym (is_equal limit limit refl)) ∙ e in absurd cc)
not_none (Some reason) limit e = absurd cc

pub runs_all : {A : Type 0} (p : Program A) (stops : List Numbered) (moves : ℕ) (t u : Timeline) (reason : Reason) (k : ℕ) → stops ≡ [] → RunsOn p stops moves t reason k u → reason ≢ Memory → ((j : ℕ) → j < moves → at_end (moved p j t) ≡ false) → u ≡ moved p moves t
runs_all p stops moves t u reason k none runs spared goes = elim (cases_lt k moves) [
  | inl before ↦ absurd (spared (not_short reason moves k (stop_on p stops t k) (none_on p stops t k none (goes k before)) before runs.least.reached))
  | inr from ↦ elim (cases_lt moves k) [
    | inl past ↦ absurd (not_none (stop_on p stops t moves) moves (runs.least.passed moves past))
    | inr to ↦ (let same : k ≡ moves = omega (arith, from, to) in runs.moves ∙ ap (λ n. moved p n t) same)
  ]
]

-- so it is of a run that is known by its states
pub goes_on : {A : Type 0} (p q : Program A) (t : Timeline) (keeps : Option ℕ) (s : State) (k : ℕ) → q ≡ p → t ≡ begun keeps s → GoesTo p s k → (j : ℕ) → j < k → at_end (moved q j t) ≡ false
goes_on {A} p q t keeps s k ep et goes j lt =
    (λ i. at_end (moved (ep i) j (et i))) ∙ ap (λ (x : State). is_final x.status) (after_moved p j (begun keeps s)) ∙ goes.1 j lt

-- a program starts in one state
pub one_start : (r : Result State StartFault) (s t : State) → r ≡ Ok s → r ≡ Ok t → s ≡ t
one_start r s t es et = let same : Ok s ≡ Ok t = sym es ∙ et in cc

-- so what was found of the run from there is so of every start
pub goes_started : {A : Type 0} (q p : Program A) (name args : List ℕ) (s : State) (k : ℕ) → q ≡ p → start_of p name args ≡ Ok s → GoesTo q s k → (t : State) → start_of p name args ≡ Ok t → GoesTo p t k
goes_started {A} q p name args s k ep es goes = λ t et.
    subst (λ (x : State). GoesTo p x k) (one_start (start_of p name args) s t es et) (subst (λ (x : Program A). GoesTo x s k) ep goes)

pub none_named : {A : Type 0} (p : Program A) → named_stops p [] ≡ []
unfolding named_stops
none_named p = refl

-- what was served of a session is so of its program and its timeline by other names
pub served_there : {A : Type 0} (wants : Bool) (q p : Program A) (u w : Timeline) (limit : ℕ) (outcome : Outcome) (verdict : Verdict) (known left before after : Option (List ℕ)) → q ≡ p → u ≡ w
    → IsServedAt outcome verdict (session_on wants q u limit) known left before after → IsServedAt outcome verdict (session_on wants p w limit) known left before after
served_there {A} wants q p u w limit outcome verdict known left before after ep et served =
    subst (λ (x : Program A). IsServedAt outcome verdict (session_on wants x w limit) known left before after) ep (subst (λ (x : Timeline). IsServedAt outcome verdict (session_on wants q x limit) known left before after) et served)

pub served_begun : {A : Type 0} (wants : Bool) (q p : Program A) (t w : Timeline) (k limit : ℕ) (outcome : Outcome) (verdict : Verdict) (known left before after : Option (List ℕ)) → q ≡ p → t ≡ w
    → IsServedAt outcome verdict (session_on wants q (moved q k t) limit) known left before after → IsServedAt outcome verdict (session_on wants p (moved p k w) limit) known left before after
served_begun {A} wants q p t w k limit outcome verdict known left before after ep et served =
    subst (λ (x : Program A). IsServedAt outcome verdict (session_on wants x (moved x k w) limit) known left before after) ep
    (subst (λ (x : Timeline). IsServedAt outcome verdict (session_on wants q (moved q k x) limit) known left before after) et served)

-- a whole machine, and the program and the state that it has
pub goes_as : {A : Type 0} (m w : Whole A) (p : Program A) (k : ℕ) → m ≡ w → w.program ≡ p → GoesTo p (state_of w) k → GoesTo m.program (state_of m) k
goes_as {A} m w p k em ep goes = subst (λ (x : Whole A). GoesTo x.program (state_of x) k) (sym em) (subst (λ (x : Program A). GoesTo x (state_of w) k) (sym ep) goes)

pub served_whole : {A : Type 0} (wants : Bool) (keeps : Option ℕ) (m w : Whole A) (p : Program A) (s : State) (k limit : ℕ) (outcome : Outcome) (verdict : Verdict) (known left before after : Option (List ℕ)) → m ≡ w → w.program ≡ p → state_of w ≡ s
    → IsServedAt outcome verdict (session_on wants m.program (moved m.program k (begun keeps (state_of m))) limit) known left before after
    → IsServedAt outcome verdict (session_on wants p (moved p k (begun keeps s)) limit) known left before after
served_whole {A} wants keeps m w p s k limit outcome verdict known left before after em ep es served =
    subst (λ (x : State). IsServedAt outcome verdict (session_on wants p (moved p k (begun keeps x)) limit) known left before after) es
    (subst (λ (x : Program A). IsServedAt outcome verdict (session_on wants x (moved x k (begun keeps (state_of w))) limit) known left before after) ep
    (subst (λ (x : Whole A). IsServedAt outcome verdict (session_on wants x.program (moved x.program k (begun keeps (state_of x))) limit) known left before after) em served))

-- the bound of a request, and what it was found to be
pub served_keeping : {A : Type 0} (p : Program A) (keeps given : Option ℕ) (s : State) (k limit : ℕ) (outcome : Outcome) (verdict : Verdict) (known left before after : Option (List ℕ)) → given ≡ keeps
    → IsServedAt outcome verdict (session_on (is_some keeps) p (moved p k (begun keeps s)) limit) known left before after
    → IsServedAt outcome verdict (session_on (is_some given) p (moved p k (begun given s)) limit) known left before after
served_keeping p keeps given s k limit outcome verdict known left before after e served =
    subst (λ (b : Option ℕ). IsServedAt outcome verdict (session_on (is_some b) p (moved p k (begun b s)) limit) known left before after) (sym e) served

-- a program by another name starts in the same states, makes the same moves, and has the same sessions
pub goes_named : {A : Type 0} (q p : Program A) (name : List ℕ) (args : List ℕ) (k : ℕ) → q ≡ p → ((s : State) → start_of p name args ≡ Ok s → GoesTo p s k) → (s : State) → start_of q name args ≡ Ok s → GoesTo q s k
goes_named {A} q p name args k e goes = subst (λ (x : Program A). (s : State) → start_of x name args ≡ Ok s → GoesTo x s k) (sym e) goes

pub served_named : {A : Type 0} (wants : Bool) (q p : Program A) (name args : List ℕ) (keeps : Option ℕ) (k limit : ℕ) (outcome : Outcome) (verdict : Verdict) (known left before after : Option (List ℕ)) → q ≡ p
    → ((s : State) → start_of q name args ≡ Ok s → IsServedAt outcome verdict (session_on wants q (moved q k (begun keeps s)) limit) known left before after)
    → (s : State) → start_of p name args ≡ Ok s → IsServedAt outcome verdict (session_on wants p (moved p k (begun keeps s)) limit) known left before after
served_named {A} wants q p name args keeps k limit outcome verdict known left before after e served =
    subst (λ (x : Program A). (s : State) → start_of x name args ≡ Ok s → IsServedAt outcome verdict (session_on wants x (moved x k (begun keeps s)) limit) known left before after) e served
