-- Runs back, move by move.
use Rattle.std.proofs.Common.{◌≡◌, refl, sym, ap, ◌∙◌, subst, ℕ, zero, suc, ◌+◌, ◌<◌, ◌≤◌, Bool, true, false, cond, List, [], ◌∷◌, length, drop, get_or, Option, Some, None, eq-eqb, arith}
use Rattle.std.proofs.lemmas.Bool.{ne_eqb}
use Rattle.std.proofs.lemmas.Bool.Decides.{nat_tests, Decides-eqb}
use Rattle.std.specs.Prelude.{◌==◌}
use Rattle.std.specs.Option.{option_or}
use Rattle.qil_semantics.specs.State.{State}
use Rattle.qil_semantics.specs.Timeline.{Timeline, position, oldest, back, back_to, gone}
use Rattle.qil_semantics.specs.Stops.{Numbered, stopped}
use Rattle.qil_semantics.specs.Runs.{if_holds, within, bottom, stop_back, stopping, IsLeast, RunsBack}
use Rattle.qil_semantics.specs.declared.reason.Reason.{Reason}
use Rattle.qil_semantics.specs.declared.reason.Reason.TheVariants.{End, Watch, Break, Start, Oldest, Limit, Memory}
use Rattle.qil_stops.proofs.OnWay.{Passes, passes_more, least_at, least_limit, stopped-plain}

-- ---- on the way: after k moves nothing was a reason to stop, and here only the oldest state can be one

pub record IsBackWay (stops : List Numbered) (t : Timeline) (k : ℕ) (now : Timeline) : Type 0 where
  pub moves : now ≡ gone k t
  pub left : length now.past + k ≡ length t.past
  pub forgotten : now.forgotten ≡ t.forgotten
  pub passed : Passes (stop_back stops t) k
  pub here : stop_back stops t k ≡ bottom now 0

pub back-begun : (stops : List Numbered) (t : Timeline) → IsBackWay stops t 0 t
unfolding gone stop_back
back-begun stops t = record { moves = refl; left = omega arith; forgotten = refl; passed = λ j lt. absurd (omega (arith, lt)); here = refl }

gone-step : (t : Timeline) (xs : List State) (k : ℕ) (d : State) (new : Timeline) → back_to t (drop k xs) ≡ Some new → new ≡ record t { now = get_or xs k d; past = drop (suc k) xs }
gone-step t [] zero d new e = absurd cc
gone-step t [] (suc k) d new e = absurd cc
gone-step t (x ∷ xs) zero d new e = let same : record t { now = x; past = xs } ≡ new = cc in sym same
gone-step t (x ∷ xs) (suc k) d new e = gone-step t xs k d new e

pub gone-more : (k : ℕ) (t now new : Timeline) → now ≡ gone k t → back now ≡ Some new → new ≡ gone (k + 1) t
unfolding gone
gone-more k t now new e f =
    let one : k + 1 ≡ suc k = omega arith in
    let g : back (gone k t) ≡ Some new = ap back (sym e) ∙ f in
    gone-step t t.past k t.now new g ∙ ap (λ n. record t { now = get_or (t.now ∷ t.past) n t.now; past = drop n t.past }) (sym one)

-- what is left after a move
back_to-left : (t : Timeline) (past : List State) (new : Timeline) → back_to t past ≡ Some new → (length past ≡ length new.past + 1) × (new.forgotten ≡ t.forgotten)
back_to-left t [] new e = absurd cc
back_to-left t (s ∷ past) new e =
    let same : record t { now = s; past = past } ≡ new = cc in
    let one : suc (length past) ≡ length past + 1 = omega arith in
    (one ∙ ap (λ (u : Timeline). length u.past + 1) same, sym (ap (λ (u : Timeline). u.forgotten) same))

pub back-left : (old new : Timeline) → back old ≡ Some new → (length old.past ≡ length new.past + 1) × (new.forgotten ≡ old.forgotten)
back-left old new e = back_to-left old old.past new e

some_left : (now : Timeline) → 0 < length now.past → bottom now 0 ≡ None
some_left now lt = ap (λ b. if_holds b (cond (oldest now == 0) Start Oldest)) (ne_eqb (length now.past) 0 (λ e. omega (arith, e, lt)))

same_bottom : (n m : ℕ) (b c : Bool) (x y : ℕ) → (n == m) ≡ b → (x == 0) ≡ c → n ≡ m + x → b ≡ c
same_bottom n m true true x y e f g = refl
same_bottom n m false false x y e f g = refl
same_bottom n m true false x y e f g = absurd (grind (arith, nat_tests, e, f, g))
same_bottom n m false true x y e f g = absurd (grind (arith, nat_tests, e, f, g))

-- the bottom is the same from the start and from here
pub bottom-here : (t now : Timeline) (k : ℕ) → length now.past + k ≡ length t.past → now.forgotten ≡ t.forgotten → bottom t k ≡ bottom now 0
bottom-here t now k left same =
    let reached : (length t.past == k) ≡ (length now.past == 0) = same_bottom (length t.past) k (length t.past == k) (length now.past == 0) (length now.past) 0 refl refl (omega (arith, left)) in
    ap (λ b. if_holds b (cond (oldest t == 0) Start Oldest)) reached ∙ ap (λ n. if_holds (length now.past == 0) (cond (n == 0) Start Oldest)) (sym same)

-- what a move reported of the state that it led back to
pub back-next : (stops : List Numbered) (k : ℕ) (t now new : Timeline) (found : Option Reason) → now ≡ gone k t → new ≡ gone (k + 1) t → found ≡ stopped stops now.now new.now →
    stop_back stops t (k + 1) ≡ option_or found (bottom t (k + 1))
unfolding stop_back
back-next stops k t now new found e f is =
    let one : k + 1 ≡ suc k = omega arith in
    let g : new ≡ gone (suc k) t = f ∙ ap (λ n. gone n t) one in
    ap (stop_back stops t) one
    ∙ ap (λ (u : Timeline). option_or (stopped stops (gone k t).now u.now) (bottom t (suc k))) (sym g)
    ∙ ap (λ (u : Timeline). option_or (stopped stops u.now new.now) (bottom t (suc k))) (sym e)
    ∙ ap (λ o. option_or o (bottom t (suc k))) (sym is)
    ∙ ap (λ n. option_or found (bottom t n)) (sym one)

-- where something is left there is no reason
pub going : (stops : List Numbered) (t : Timeline) (k : ℕ) (now : Timeline) → IsBackWay stops t k now → 0 < length now.past → stop_back stops t k ≡ None
going stops t k now way some = way.here ∙ some_left now some

pub moved_back : (old new : Timeline) → back old ≡ Some new → 0 < length old.past
moved_back old new e = let l = (back-left old new e).0 in omega (arith, l)

pub back-more : (stops : List Numbered) (k : ℕ) (t now new : Timeline) → IsBackWay stops t k now → back now ≡ Some new → None ≡ stopped stops now.now new.now → IsBackWay stops t (k + 1) new
back-more stops k t now new way f is =
    let moves : new ≡ gone (k + 1) t = gone-more k t now new way.moves f in
    let one = back-left now new f in
    let fewer : length now.past ≡ length new.past + 1 = one.0 in
    let before : length now.past + k ≡ length t.past = way.left in
    let left : length new.past + (k + 1) ≡ length t.past = omega (arith, fewer, before) in
    let forgotten : new.forgotten ≡ t.forgotten = one.1 ∙ way.forgotten in
    record {
      moves = moves;
      left = left;
      forgotten = forgotten;
      passed = passes_more (stop_back stops t) k way.passed (going stops t k now way (moved_back now new f));
      here = back-next stops k t now new None way.moves moves is ∙ bottom-here t new (k + 1) left forgotten;
    }

-- a stop holds after the move
pub back-stop : (stops : List Numbered) (limit k : ℕ) (t now new : Timeline) (r : Reason) → IsBackWay stops t k now → back now ≡ Some new → Some r ≡ stopped stops now.now new.now → k < limit →
    RunsBack stops limit t r (k + 1) new
back-stop stops limit k t now new r way f is lt =
    let moves : new ≡ gone (k + 1) t = gone-more k t now new way.moves f in
    let plain : stopping r ≡ Some r = stopped-plain stops now.now new.now r is in
    record {
      moves = moves;
      no_memory = plain;
      least = least_at (stop_back stops t) limit (k + 1) r (passes_more (stop_back stops t) k way.passed (going stops t k now way (moved_back now new f))) (omega (arith, lt))
          (back-next stops k t now new (Some r) way.moves moves is) plain;
    }

pub back-bottom : (stops : List Numbered) (limit k : ℕ) (t now new : Timeline) (r : Reason) → IsBackWay stops t k now → bottom now 0 ≡ Some r → stopping r ≡ Some r → new ≡ now → k ≤ limit → RunsBack stops limit t r k new
back-bottom stops limit k t now new r way at plain same le = record {
  moves = same ∙ way.moves;
  no_memory = plain;
  least = least_at (stop_back stops t) limit k r way.passed le (way.here ∙ at) plain;
}

-- the start is reached
pub back-start : (stops : List Numbered) (limit k : ℕ) (t now new : Timeline) → IsBackWay stops t k now → position now ≡ 0 → new ≡ now → k ≤ limit → RunsBack stops limit t Start k new
back-start stops limit k t now new way at same le =
    let none : length now.past ≡ 0 = omega (arith, at) in
    let first : oldest now ≡ 0 = omega (arith, at) in
    back-bottom stops limit k t now new Start way
    (ap (λ b. if_holds b (cond (oldest now == 0) Start Oldest)) (eq-eqb (length now.past) 0 none) ∙ ap (λ b. if_holds true (cond b Start Oldest)) (eq-eqb (oldest now) 0 first)) refl same le

-- the oldest state that is kept is reached, and it isn't the start
pub back-oldest : (stops : List Numbered) (limit k : ℕ) (t now new : Timeline) → IsBackWay stops t k now → length now.past ≡ 0 → 0 < position now → new ≡ now → k ≤ limit → RunsBack stops limit t Oldest k new
back-oldest stops limit k t now new way none some same le =
    back-bottom stops limit k t now new Oldest way
    (ap (λ b. if_holds b (cond (oldest now == 0) Start Oldest)) (eq-eqb (length now.past) 0 none) ∙ ap (λ b. if_holds true (cond b Start Oldest)) (ne_eqb (oldest now) 0 (λ e. omega (arith, e, some, none)))) refl same le

pub back-limit : (stops : List Numbered) (limit k : ℕ) (t now : Timeline) → IsBackWay stops t k now → 0 < length now.past → k ≡ limit → RunsBack stops limit t Limit limit now
back-limit stops limit k t now way some e = record {
  moves = way.moves ∙ ap (λ n. gone n t) e;
  no_memory = refl;
  least = subst (λ n. IsLeast (stop_back stops t) limit n Limit) e (least_limit (stop_back stops t) limit k e way.passed (going stops t k now way some));
}

-- ---- what a run back made

gone-position : (past : List State) (k : ℕ) → length (drop k past) ≤ length past
gone-position [] zero = omega arith
gone-position [] (suc k) = omega arith
gone-position (s ∷ past) zero = omega arith
gone-position (s ∷ past) (suc k) = let deep = gone-position past k in omega (arith, deep)

pub back-near : (stops : List Numbered) (limit k : ℕ) (t u : Timeline) (r : Reason) → RunsBack stops limit t r k u → position u ≤ position t
unfolding gone
back-near stops limit k t u r runs =
    let at : position u ≡ t.forgotten + length (drop k t.past) = ap position runs.moves in
    let few = gone-position t.past k in
    omega (arith, at, few)

-- ---- without a move

stops_with : (r q : Reason) → stopping r ≡ Some q → r ≡ q
stops_with Memory q e = absurd cc
stops_with End q e = cc
stops_with (Watch n) q e = cc
stops_with (Break n) q e = cc
stops_with Start q e = cc
stops_with Oldest q e = cc
stops_with Limit q e = cc

at_once : (stop : ℕ → Option Reason) (limit k : ℕ) (r q : Reason) → IsLeast stop limit k r → stop 0 ≡ Some q → (r ≡ q) × (k ≡ 0)
at_once stop limit zero r q h e = (stops_with r q (sym h.reached ∙ ap (λ o. within limit 0 o) e), refl)
at_once stop limit (suc k) r q h e = let none = h.passed 0 (omega arith) in let some = ap (λ o. within limit 0 o) e in absurd cc

here_only : (limit : ℕ) (o : Option Reason) (q : Reason) → within limit 0 o ≡ Some q → (q ≡ Limit → ⊥) → o ≡ Some q
here_only limit (Some r) q e other = e
here_only limit None q e other = absurd (only_limit (0 == limit) q e other)
  where
    only_limit : (b : Bool) (q : Reason) → if_holds b Limit ≡ Some q → (q ≡ Limit → ⊥) → ⊥
    only_limit true q e other = other (let same : Limit ≡ q = cc in sym same)
    only_limit false q e other = absurd cc

bottom_is : (a b : Bool) (q : Reason) → if_holds a (cond b Start Oldest) ≡ Some q → (a ≡ true) × (cond b Start Oldest ≡ q)
bottom_is true b q e = (refl, let same : cond b Start Oldest ≡ q = cc in same)
bottom_is false b q e = absurd cc

starts : (b : Bool) → cond b Start Oldest ≡ Start → b ≡ true
starts true e = refl
starts false e = absurd cc

not_start : (b : Bool) → cond b Start Oldest ≡ Oldest → b ≡ false
not_start true e = absurd cc
not_start false e = refl

at_zero : (limit : ℕ) (stops : List Numbered) (k : ℕ) (t u : Timeline) (r q : Reason) → RunsBack stops limit t r k u → r ≡ q → k ≡ 0 → (q ≡ Limit → ⊥) → stopping q ≡ Some q → bottom t 0 ≡ Some q
unfolding stop_back
at_zero limit stops k t u r q runs is none other plain =
    here_only limit (bottom t 0) q (ap (λ n. within limit n (stop_back stops t n)) (sym none) ∙ runs.least.reached ∙ ap stopping is ∙ plain) other

bottom_zero : (t : Timeline) (q : Reason) (b : Bool) → length t.past ≡ 0 → (oldest t == 0) ≡ b → bottom t 0 ≡ Some (cond b Start Oldest)
bottom_zero t q b none is = ap (λ a. if_holds a (cond (oldest t == 0) Start Oldest)) (eq-eqb (length t.past) 0 none) ∙ ap (λ a. Some (cond a Start Oldest)) is

pub start-already : (stops : List Numbered) (limit k : ℕ) (t u : Timeline) (r : Reason) → RunsBack stops limit t r k u → r ≡ Start → k ≡ 0 → position t ≡ 0
start-already stops limit k t u r runs is none =
    let there = bottom_is (length t.past == 0) (oldest t == 0) Start (at_zero limit stops k t u r Start runs is none (λ e. absurd cc) refl) in
    let past : length t.past ≡ 0 = (Decides-eqb (length t.past) 0).0 there.0 in
    let first : oldest t ≡ 0 = (Decides-eqb (oldest t) 0).0 (starts (oldest t == 0) there.1) in
    omega (arith, past, first)

pub start-at_once : (stops : List Numbered) (limit k : ℕ) (t u : Timeline) (r : Reason) → RunsBack stops limit t r k u → position t ≡ 0 → (r ≡ Start) × (k ≡ 0)
unfolding stop_back
start-at_once stops limit k t u r runs at =
    at_once (stop_back stops t) limit k r Start runs.least (bottom_zero t Start true (omega (arith, at)) (eq-eqb (oldest t) 0 (omega (arith, at))))

pub oldest-already : (stops : List Numbered) (limit k : ℕ) (t u : Timeline) (r : Reason) → RunsBack stops limit t r k u → r ≡ Oldest → k ≡ 0 → (position t ≡ oldest t) × (0 < position t)
oldest-already stops limit k t u r runs is none =
    let there = bottom_is (length t.past == 0) (oldest t == 0) Oldest (at_zero limit stops k t u r Oldest runs is none (λ e. absurd cc) refl) in
    let past : length t.past ≡ 0 = (Decides-eqb (length t.past) 0).0 there.0 in
    let later : (oldest t == 0) ≡ false = not_start (oldest t == 0) there.1 in
    (omega (arith, past), grind (arith, nat_tests, past, later))

pub oldest-at_once : (stops : List Numbered) (limit k : ℕ) (t u : Timeline) (r : Reason) → RunsBack stops limit t r k u → position t ≡ oldest t → 0 < position t → (r ≡ Oldest) × (k ≡ 0)
unfolding stop_back
oldest-at_once stops limit k t u r runs at some =
    at_once (stop_back stops t) limit k r Oldest runs.least (bottom_zero t Oldest false (omega (arith, at)) (ne_eqb (oldest t) 0 (λ e. omega (arith, e, at, some))))
