-- Runs forward, move by move.
use Rattle.std.proofs.Common.{◌≡◌, refl, sym, ap, ◌∙◌, subst, ℕ, zero, suc, ◌+◌, ◌<◌, ◌≤◌, Bool, true, false, cond, List, [], ◌∷◌, length, inl, inr, Option, Some, None, eq-eqb, arith}
use Rattle.std.proofs.lemmas.Bool.{ne_eqb}
use Rattle.std.specs.Prelude.{◌==◌}
use Rattle.std.specs.Option.{option_map, option_or}
use Rattle.std.proofs.lemmas.Bool.{cases_lt}
use Rattle.std.proofs.lemmas.List.{length-take}
use borrow.Author.Count.{below_more}
use Rattle.qil_tree.specs.declared.tree.Program.{Program}
use Rattle.qil_semantics.specs.State.{State}
use Rattle.qil_semantics.specs.Timeline.{Timeline, forward, position, at_end, moved, newest, forgotten_of}
use Rattle.qil_semantics.specs.Stops.{Numbered, first_watch, first_break, stopped}
use Rattle.qil_semantics.specs.Runs.{if_holds, within, stop_on, stopping, IsLeast, RunsOn}
use Rattle.qil_semantics.specs.declared.reason.Reason.{Reason}
use Rattle.qil_semantics.specs.declared.reason.Reason.TheVariants.{End, Watch, Break, Start, Oldest, Limit, Memory}

-- nothing stops after fewer than k moves
abbrev pub Passes : (ℕ → Option Reason) → ℕ → Type 0
Passes stop k = (j : ℕ) → j < k → stop j ≡ None

pub passes_more : (stop : ℕ → Option Reason) (k : ℕ) → Passes stop k → stop k ≡ None → Passes stop (k + 1)
passes_more stop k passed here = below_more (λ j. stop j ≡ None) k passed here

-- ---- the least number of moves

unlimited : (j limit : ℕ) → j < limit → (j == limit) ≡ false
unlimited j limit lt = ne_eqb j limit (λ e. omega (arith, lt, e))

within-none : (stop : ℕ → Option Reason) (limit j : ℕ) → stop j ≡ None → j < limit → within limit j (stop j) ≡ None
within-none stop limit j e lt = ap (λ r. option_or r (if_holds (j == limit) Limit)) e ∙ ap (λ b. if_holds b Limit) (unlimited j limit lt)

-- a reason that isn't out of memory
pub least_at : (stop : ℕ → Option Reason) (limit k : ℕ) (r : Reason) → Passes stop k → k ≤ limit → stop k ≡ Some r → stopping r ≡ Some r → IsLeast stop limit k r
least_at stop limit k r passed le here plain = record {
  passed = λ j lt. within-none stop limit j (passed j lt) (omega (arith, lt, le));
  reached = ap (λ found. option_or found (if_holds (k == limit) Limit)) here ∙ sym plain;
}

pub least_limit : (stop : ℕ → Option Reason) (limit k : ℕ) → k ≡ limit → Passes stop k → stop k ≡ None → IsLeast stop limit k Limit
least_limit stop limit k e passed here = record {
  passed = λ j lt. within-none stop limit j (passed j lt) (omega (arith, lt, e));
  reached = ap (λ found. option_or found (if_holds (k == limit) Limit)) here ∙ ap (λ b. if_holds b Limit) (eq-eqb k limit e);
}

pub least_memory : (stop : ℕ → Option Reason) (limit k : ℕ) → k < limit → Passes stop k → stop k ≡ None → IsLeast stop limit k Memory
least_memory stop limit k lt passed here = record {
  passed = λ j under. within-none stop limit j (passed j under) (omega (arith, lt, under));
  reached = within-none stop limit k here lt;
}

-- a stop that holds isn't out of memory
plain_cases : (w k : Option ℕ) (r : Reason) → Some r ≡ option_or (option_map Watch w) (option_map Break k) → stopping r ≡ Some r
plain_cases (Some n) k r e = let q : Watch n ≡ r = cc in subst (λ (r : Reason). stopping r ≡ Some r) q refl
plain_cases None (Some n) r e = let q : Break n ≡ r = cc in subst (λ (r : Reason). stopping r ≡ Some r) q refl
plain_cases None None r e = absurd cc

pub stopped-plain : (stops : List Numbered) (a b : State) (r : Reason) → Some r ≡ stopped stops a b → stopping r ≡ Some r
unfolding stopped
stopped-plain stops a b r e = plain_cases (first_watch a b stops) (first_break b stops) r e

pub or_none : (o : Option Reason) → option_or o None ≡ o
or_none None = refl
or_none (Some r) = refl

pub not_true : (b : Bool) → (b ≡ true → ⊥) → b ≡ false
not_true true h = absurd (h refl)
not_true false h = refl

-- ---- on the way: after k moves nothing was a reason to stop, and here only the end can be one

pub record IsOnWay {A : Type 0} (p : Program A) (stops : List Numbered) (t : Timeline) (k : ℕ) (now : Timeline) : Type 0 where
  pub moves : now ≡ moved p k t
  pub passed : Passes (stop_on p stops t) k
  pub here : stop_on p stops t k ≡ if_holds (at_end now) End

pub on-begun : {A : Type 0} (p : Program A) (stops : List Numbered) (t : Timeline) → IsOnWay p stops t 0 t
unfolding moved stop_on
on-begun p stops t = record { moves = refl; passed = λ j lt. absurd (omega (arith, lt)); here = refl }

pub moved-more : {A : Type 0} (p : Program A) (k : ℕ) (t now new : Timeline) → now ≡ moved p k t → new ≡ forward p now → new ≡ moved p (k + 1) t
unfolding moved
moved-more p k t now new e f =
    let one : k + 1 ≡ suc k = omega arith in
    f ∙ (ap (λ (u : Timeline). forward p u) e ∙ ap (λ n. moved p n t) (sym one))

pub on-next : {A : Type 0} (p : Program A) (stops : List Numbered) (k : ℕ) (t now new : Timeline) (found : Option Reason) → now ≡ moved p k t → new ≡ forward p now → found ≡ stopped stops now.now new.now →
    stop_on p stops t (k + 1) ≡ option_or (if_holds (at_end new) End) found
unfolding stop_on moved
on-next p stops k t now new found e f is =
    let one : k + 1 ≡ suc k = omega arith in
    let g : new ≡ forward p (moved p k t) = f ∙ ap (λ (u : Timeline). forward p u) e in
    ap (stop_on p stops t) one
    ∙ ap (λ (u : Timeline). option_or (if_holds (at_end u) End) (stopped stops (moved p k t).now u.now)) (sym g)
    ∙ ap (λ (u : Timeline). option_or (if_holds (at_end new) End) (stopped stops u.now new.now)) (sym e)
    ∙ ap (λ o. option_or (if_holds (at_end new) End) o) (sym is)

-- where the run isn't over there is no reason
pub running : {A : Type 0} (p : Program A) (stops : List Numbered) (t : Timeline) (k : ℕ) (now : Timeline) → IsOnWay p stops t k now → at_end now ≡ false → stop_on p stops t k ≡ None
running p stops t k now way goes = way.here ∙ ap (λ b. if_holds b End) goes

pub on-more : {A : Type 0} (p : Program A) (stops : List Numbered) (k : ℕ) (t now new : Timeline) → IsOnWay p stops t k now → at_end now ≡ false → new ≡ forward p now → None ≡ stopped stops now.now new.now →
    IsOnWay p stops t (k + 1) new
on-more p stops k t now new way goes f is = record {
  moves = moved-more p k t now new way.moves f;
  passed = passes_more (stop_on p stops t) k way.passed (running p stops t k now way goes);
  here = on-next p stops k t now new None way.moves f is ∙ or_none (if_holds (at_end new) End);
}

-- a stop holds after the move, and the run isn't over
pub on-stop : {A : Type 0} (p : Program A) (stops : List Numbered) (limit k : ℕ) (t now new : Timeline) (r : Reason) → IsOnWay p stops t k now → at_end now ≡ false → new ≡ forward p now →
    Some r ≡ stopped stops now.now new.now → at_end new ≡ false → k < limit → RunsOn p stops limit t r (k + 1) new
on-stop p stops limit k t now new r way goes f is on lt = record {
  moves = moved-more p k t now new way.moves f;
  least = least_at (stop_on p stops t) limit (k + 1) r (passes_more (stop_on p stops t) k way.passed (running p stops t k now way goes)) (omega (arith, lt))
      (on-next p stops k t now new (Some r) way.moves f is ∙ ap (λ b. option_or (if_holds b End) (Some r)) on) (stopped-plain stops now.now new.now r is);
}

-- the run is over after the move
pub on-over : {A : Type 0} (p : Program A) (stops : List Numbered) (limit k : ℕ) (t now new : Timeline) (found : Option Reason) → IsOnWay p stops t k now → at_end now ≡ false → new ≡ forward p now →
    found ≡ stopped stops now.now new.now → at_end new ≡ true → k < limit → RunsOn p stops limit t End (k + 1) new
on-over p stops limit k t now new found way goes f is over lt = record {
  moves = moved-more p k t now new way.moves f;
  least = least_at (stop_on p stops t) limit (k + 1) End (passes_more (stop_on p stops t) k way.passed (running p stops t k now way goes)) (omega (arith, lt))
      (on-next p stops k t now new found way.moves f is ∙ ap (λ b. option_or (if_holds b End) found) over) refl;
}

-- the end comes before a stop
pub on-halt : {A : Type 0} (p : Program A) (stops : List Numbered) (limit k : ℕ) (t now new : Timeline) (r q : Reason) (b : Bool) → IsOnWay p stops t k now → at_end now ≡ false → new ≡ forward p now →
    Some r ≡ stopped stops now.now new.now → at_end new ≡ b → q ≡ cond b End r → k < limit → RunsOn p stops limit t q (k + 1) new
on-halt p stops limit k t now new r q true way goes f is at reported lt = subst (λ x. RunsOn p stops limit t x (k + 1) new) (sym reported) (on-over p stops limit k t now new (Some r) way goes f is at lt)
on-halt p stops limit k t now new r q false way goes f is at reported lt = subst (λ x. RunsOn p stops limit t x (k + 1) new) (sym reported) (on-stop p stops limit k t now new r way goes f is at lt)

-- no move was left to make
pub on-end : {A : Type 0} (p : Program A) (stops : List Numbered) (limit k : ℕ) (t now new : Timeline) → IsOnWay p stops t k now → at_end now ≡ true → new ≡ now → k ≤ limit → RunsOn p stops limit t End k new
on-end p stops limit k t now new way over same le = record {
  moves = same ∙ way.moves;
  least = least_at (stop_on p stops t) limit k End way.passed le (way.here ∙ ap (λ b. if_holds b End) over) refl;
}

pub on-memory : {A : Type 0} (p : Program A) (stops : List Numbered) (limit k : ℕ) (t now new : Timeline) → IsOnWay p stops t k now → at_end now ≡ false → new ≡ now → k < limit → RunsOn p stops limit t Memory k new
on-memory p stops limit k t now new way goes same lt = record {
  moves = same ∙ way.moves;
  least = least_memory (stop_on p stops t) limit k lt way.passed (running p stops t k now way goes);
}

pub on-limit : {A : Type 0} (p : Program A) (stops : List Numbered) (limit k : ℕ) (t now : Timeline) → IsOnWay p stops t k now → at_end now ≡ false → k ≡ limit → RunsOn p stops limit t Limit k now
on-limit p stops limit k t now way goes e = record {
  moves = way.moves;
  least = least_limit (stop_on p stops t) limit k e way.passed (running p stops t k now way goes);
}

-- at the limit: the end, if the run is over
pub on-last : {A : Type 0} (p : Program A) (stops : List Numbered) (limit k : ℕ) (t now : Timeline) (b : Bool) → IsOnWay p stops t k now → at_end now ≡ b → k ≡ limit → RunsOn p stops limit t (cond b End Limit) limit now
on-last p stops limit k t now true way is e = subst (λ n. RunsOn p stops limit t End n now) e (on-end p stops limit k t now now way is refl (omega (arith, e)))
on-last p stops limit k t now false way is e = subst (λ n. RunsOn p stops limit t Limit n now) e (on-limit p stops limit k t now way is e)

-- no stop of none holds
pub none-stopped : (a b : State) → None ≡ stopped [] a b
unfolding stopped first_watch first_break
none-stopped a b = refl

-- ---- positions

to_position : (keeps : Option ℕ) (forgotten : ℕ) (past : List State) → forgotten_of keeps forgotten past + length (newest keeps past) ≡ forgotten + length past
to_position None forgotten past = refl
to_position (Some n) forgotten past = let l = length-take n past in omega (arith, l)

pub moved-position : {A : Type 0} (p : Program A) (k : ℕ) (t : Timeline) → position (moved p k t) ≡ position t + k
unfolding moved
moved-position p zero t = omega arith
moved-position p (suc k) t =
    let m = moved p k t in
    let deep = moved-position p k t in
    let here = to_position m.keeps m.forgotten (m.now ∷ m.past) in
    omega (arith, deep, here)

pub on-position : {A : Type 0} (p : Program A) (stops : List Numbered) (k : ℕ) (t now : Timeline) → IsOnWay p stops t k now → position now ≡ position t + k
on-position p stops k t now way = ap position way.moves ∙ moved-position p k t

-- ---- what a run made

passed_limit : (limit : ℕ) (o : Option Reason) → within limit limit o ≡ None → ⊥
passed_limit limit (Some r) e = absurd cc
passed_limit limit None e = let at : (limit == limit) ≡ true = eq-eqb limit limit refl in let here = ap (λ b. if_holds b Limit) at in absurd cc

-- no more moves than the limit
pub least-within : (stop : ℕ → Option Reason) (limit k : ℕ) (r : Reason) → IsLeast stop limit k r → k ≤ limit
least-within stop limit k r h = elim (cases_lt limit k) [
  | inl l ↦ absurd (passed_limit limit (stop limit) (h.passed limit l))
  | inr g ↦ g
]

pub on-near : {A : Type 0} (p : Program A) (stops : List Numbered) (limit k : ℕ) (t u : Timeline) (r : Reason) → RunsOn p stops limit t r k u → position u ≤ position t + limit
on-near p stops limit k t u r runs =
    let few : k ≤ limit = least-within (stop_on p stops t) limit k r runs.least in
    let at : position u ≡ position t + k = ap position runs.moves ∙ moved-position p k t in
    omega (arith, few, at)

-- ---- without a move

only_end : (b : Bool) (limit : ℕ) → within limit 0 (if_holds b End) ≡ Some End → b ≡ true
only_end true limit e = refl
only_end false limit e = absurd (no_limit (0 == limit) e)
  where
    no_limit : (c : Bool) → if_holds c Limit ≡ Some End → ⊥
    no_limit true e = absurd cc
    no_limit false e = absurd cc

at_once : (stop : ℕ → Option Reason) (limit k : ℕ) (r : Reason) → IsLeast stop limit k r → stop 0 ≡ Some End → (r ≡ End) × (k ≡ 0)
at_once stop limit zero r h e = (stops_with r (sym h.reached ∙ ap (λ o. within limit 0 o) e), refl)
  where
    stops_with : (r : Reason) → stopping r ≡ Some End → r ≡ End
    stops_with End e = refl
    stops_with Memory e = absurd cc
    stops_with (Watch n) e = absurd cc
    stops_with (Break n) e = absurd cc
    stops_with Start e = absurd cc
    stops_with Oldest e = absurd cc
    stops_with Limit e = absurd cc
at_once stop limit (suc k) r h e = let none = h.passed 0 (omega arith) in let some = ap (λ o. within limit 0 o) e in absurd cc

-- without a move a run ends at a final status, and nowhere else
pub on-at_once : {A : Type 0} (p : Program A) (stops : List Numbered) (limit k : ℕ) (t u : Timeline) (r : Reason) → RunsOn p stops limit t r k u → at_end t ≡ true → (r ≡ End) × (k ≡ 0)
unfolding stop_on
on-at_once p stops limit k t u r runs over = at_once (stop_on p stops t) limit k r runs.least (ap (λ b. if_holds b End) over)

pub on-over_already : {A : Type 0} (p : Program A) (stops : List Numbered) (limit k : ℕ) (t u : Timeline) (r : Reason) → RunsOn p stops limit t r k u → r ≡ End → k ≡ 0 → at_end t ≡ true
unfolding stop_on
on-over_already p stops limit k t u r runs ends none =
    let here : within limit 0 (stop_on p stops t 0) ≡ Some End = ap (λ n. within limit n (stop_on p stops t n)) (sym none) ∙ runs.least.reached ∙ ap stopping ends in
    only_end (at_end t) limit here
