-- Depths of calls along a walk, and on its timeline.
use Rattle.std.proofs.Common.{◌≡◌, refl, sym, ap, ◌∙◌, subst, ℕ, zero, suc, ◌+◌, ◌-◌, ◌<◌, ◌≤◌, Bool, true, false, cond, List, length, Option, Some, None, ◌⊎◌, inl, inr, arith}
use Rattle.std.specs.Prelude.{◌==◌, not, nat_lt}
use Rattle.std.specs.Option.{option_map, option_or}
use Rattle.std.proofs.lemmas.Bool.Decides.{nat_tests, Decides-eqb}
use Rattle.qil_tree.specs.declared.tree.Program.{Program}
use Rattle.qil_semantics.specs.State.{State}
use Rattle.qil_semantics.specs.Timeline.{Timeline, forward, at_end, moved, gone, oldest}
use Rattle.qil_semantics.specs.Stops.{Numbered, first_watch, first_break, stopped}
use Rattle.qil_semantics.specs.Runs.{if_holds, within, bottom, stop_back, stopping, RunsBack}
use Rattle.qil_semantics.specs.declared.reason.Reason.{Reason}
use Rattle.qil_semantics.specs.declared.reason.Reason.TheVariants.{End, Watch, Break, Start, Oldest, Limit, Memory}
use Rattle.qil_state.specs.State.{Whole, state_of}
use Rattle.qil_stops.specs.declared.stop.NumberedStop.{NumberedStop}
use Rattle.qil_stops.specs.Named.{named_stops}
use Rattle.qil_stops.specs.Depths.{depth, Passes, Ends, EndsAnyway, RunsBackToDepth}
use Rattle.qil_stops.specs.declared.depth_end.DepthEnd.{DepthEnd}
use Rattle.qil_stops.specs.declared.depth_end.DepthEnd.TheVariants.{Depth, Stopped}
use Rattle.qil_stops.proofs.OnWay.{least-within}
use Rattle.qil_checkpoints.specs.declared.hit.Hit.{Hit}
use Rattle.qil_checkpoints.specs.declared.poked.Poked.{Poked}
use Rattle.qil_checkpoints.specs.Walk.{AreMoves, walk, timeline_at}
use Rattle.qil_checkpoints.specs.Held.{first_of, IsKept, Holds, Reaches}
use Rattle.qil_checkpoints.specs.Hits.{IsLastHit}
use Rattle.qil_checkpoints.specs.CallDepths.{shallow_in, shallow_at, IsFirstShallow, Advances, depth_or}
use Rattle.qil_checkpoints.proofs.HeldLemmas.{kept-as, reaches-as, walk-as}
use Rattle.qil_checkpoints.proofs.WalkTimelines.{walked-length, gone-walk}

-- ---- one step

pub advances : {A : Type 0} (p : Program A) (r : ℕ) (t u : Timeline) → r ≤ 1 → u ≡ moved p r t → ((j : ℕ) → j < r → at_end (moved p j t) ≡ false) → (r ≡ 1) ⊎ (at_end u ≡ true) → Advances p (r == 1) t u
unfolding moved
advances p zero t u few is runs (inl one) = absurd (omega (arith, one))
advances p zero t u few is runs (inr over) = (ap at_end (sym is) ∙ over, is)
advances p (suc zero) t u few is runs over = (runs 0 (omega arith), is)
advances p (suc (suc r)) t u few is runs over = absurd (omega (arith, few))

pub advanced : {A : Type 0} (q p : Program A) (made : Bool) (t u : Timeline) → q ≡ p → made ≡ true → Advances q made t u → (at_end t ≡ false) × (u ≡ forward p t)
advanced {A} q p made t u e is step = subst (λ (r : Program A). (at_end t ≡ false) × (u ≡ forward r t)) e (subst (λ b. Advances q b t u) is step)

pub ended-there : {A : Type 0} (p : Program A) (made : Bool) (t u : Timeline) → made ≡ false → Advances p made t u → (at_end t ≡ true) × (u ≡ t)
ended-there p made t u is step = subst (λ b. Advances p b t u) is step

-- ---- a depth

deep_test : (n d : ℕ) (b : Bool) → nat_lt n d ≡ b → if_holds (not b) Limit ≡ None → n < d
deep_test n d true e none = grind (arith, nat_tests, e)
deep_test n d false e none = absurd cc

shallow_test : (n d : ℕ) (b : Bool) (r : Reason) → nat_lt n d ≡ b → if_holds (not b) Limit ≡ Some r → d ≤ n
shallow_test n d true r e some = absurd cc
shallow_test n d false r e some = grind (arith, nat_tests, e)

deep_at : (n : ℕ) (s : State) → shallow_in n s ≡ None → n < length s.frames
deep_at n s none = deep_test n (length s.frames) (nat_lt n (length s.frames)) refl none

shallow-here : (n : ℕ) (s : State) (r : Reason) → shallow_in n s ≡ Some r → length s.frames ≤ n
shallow-here n s r some = shallow_test n (length s.frames) (nat_lt n (length s.frames)) r refl some

-- what code says of it, by whether it isn't deeper
pub shallow-told : (n d : ℕ) → d ≤ n → Some Limit ≡ if_holds (not (nat_lt n d)) Limit
shallow-told n d le = shallow_told (nat_lt n d) refl
  where
    shallow_told : (b : Bool) → nat_lt n d ≡ b → Some Limit ≡ if_holds (not b) Limit
    shallow_told true e = let lt : n < d = grind (arith, nat_tests, e) in absurd (omega (arith, lt, le))
    shallow_told false e = refl

pub deep-told : (n d : ℕ) → n < d → None ≡ if_holds (not (nat_lt n d)) Limit
deep-told n d lt = deep_told (nat_lt n d) refl
  where
    deep_told : (b : Bool) → nat_lt n d ≡ b → None ≡ if_holds (not b) Limit
    deep_told true e = refl
    deep_told false e = let le : d ≤ n = grind (arith, nat_tests, e) in absurd (omega (arith, lt, le))

-- so many moves back from the end of a walk the calls are those of the position
back_depth : {A : Type 0} (p : Program A) (s : State) (pokes : List Poked) (n j i : ℕ) → j + i ≡ n → depth (gone j (timeline_at p s pokes n)) ≡ length (walk p s pokes i).frames
back_depth p s pokes n j i e = ap depth (gone-walk p s pokes j i n e)

-- the last position of a walk before its end where so few calls are open, counted back
pub first-shallow : {A : Type 0} (p : Program A) (s : State) (pokes : List Poked) (n most limit low : ℕ) (found : Option Hit) → low ≡ n - limit → IsLastHit (shallow_at p most s pokes) low n found
    → IsFirstShallow (timeline_at p s pokes n) most limit (option_map (λ (h : Hit). n - h.position) found)
first-shallow {A} p s pokes n most limit low None is last = λ j some le there.
    let long : length (timeline_at p s pokes n).past ≡ n = walked-length p s pokes n in
    let sum : j + (n - j) ≡ n = omega (arith, long, there) in
    let deep : most < length (walk p s pokes (n - j)).frames = deep_at most (walk p s pokes (n - j)) (last (n - j) (omega (arith, is, le)) (omega (arith, some, sum))) in
    subst (λ d. most < d) (sym (back_depth p s pokes n j (n - j) sum)) deep
first-shallow {A} p s pokes n most limit low (Some hit) is last =
    let low_is : low ≤ hit.position = last.0 in
    let under : hit.position < n = last.1 in
    let sum : (n - hit.position) + hit.position ≡ n = omega (arith, under) in (
      omega (arith, under),
      omega (arith, under, low_is, is),
      subst (λ d. d ≤ most) (sym (back_depth p s pokes n (n - hit.position) hit.position sum)) (shallow-here most (walk p s pokes hit.position) hit.reason last.2),
      λ j some lt.
          (let there : j + (n - j) ≡ n = omega (arith, under, lt) in
          let deep : most < length (walk p s pokes (n - j)).frames = deep_at most (walk p s pokes (n - j)) (last.3 (n - j) (omega (arith, lt, under)) (omega (arith, some, there))) in
          subst (λ d. most < d) (sym (back_depth p s pokes n j (n - j) there)) deep),
    )

-- ---- runs back with a limit that is a depth, or with none

left_none : (o other : Option Reason) → option_or o other ≡ None → o ≡ None
left_none None other e = refl
left_none (Some r) other e = absurd cc

left_some : (o : Option Reason) (b : Bool) (r : Reason) → (r ≡ Limit → ⊥) → option_or o (if_holds b Limit) ≡ Some r → o ≡ Some r
left_some (Some q) b r plain e = e
left_some None true r plain e = absurd (plain (let q : Limit ≡ r = cc in sym q))
left_some None false r plain e = absurd cc

bottom_plain : (b c : Bool) → if_holds b (cond c Start Oldest) ≡ Some Limit → ⊥
bottom_plain true true e = absurd cc
bottom_plain true false e = absurd cc
bottom_plain false c e = absurd cc

stop_plain : (w k : Option ℕ) (b c : Bool) → option_or (option_or (option_map Watch w) (option_map Break k)) (if_holds b (cond c Start Oldest)) ≡ Some Limit → ⊥
stop_plain (Some n) k b c e = absurd cc
stop_plain None (Some n) b c e = absurd cc
stop_plain None None b c e = bottom_plain b c e

-- the limit is no stop
no_limit : (stops : List Numbered) (t : Timeline) (k : ℕ) → stop_back stops t k ≡ Some Limit → ⊥
unfolding stop_back stopped
no_limit stops t zero e = bottom_plain (length t.past == 0) (oldest t == 0) e
no_limit stops t (suc k) e = stop_plain (first_watch (gone k t).now (gone (suc k) t).now stops) (first_break (gone (suc k) t).now stops) (length t.past == suc k) (oldest t == 0) e

-- the limit is reached where no stop is
at_limit : (o : Option Reason) (limit k : ℕ) → (o ≡ Some Limit → ⊥) → within limit k o ≡ Some Limit → (o ≡ None) × (k ≡ limit)
at_limit (Some r) limit k plain e = absurd (plain e)
at_limit None limit k plain e = (refl, is_limit (k == limit) refl e)
  where
    is_limit : (b : Bool) → (k == limit) ≡ b → if_holds b Limit ≡ Some Limit → k ≡ limit
    is_limit true at is = (Decides-eqb k limit).0 at
    is_limit false at is = absurd cc

-- the way that a run back went
passed_back : (stops : List Numbered) (n limit m k : ℕ) (t u : Timeline) (r : Reason) → ((j : ℕ) → 0 < j → j < k → n < depth (gone j t)) → RunsBack stops m t r k u → Passes (stop_back stops t) (λ j. gone j t) n k
passed_back stops n limit m k t u r deep runs = record { unstopped = λ j lt. left_none (stop_back stops t j) (if_holds (j == m) Limit) (runs.least.passed j lt); deep = λ j lt some. deep j some lt }

-- it stopped for a reason of its own
stopped_back : (stops : List Numbered) (n limit m k : ℕ) (t u : Timeline) (r : Reason) → (r ≡ Limit → ⊥) → k ≤ limit → ((j : ℕ) → 0 < j → j < k → n < depth (gone j t)) → RunsBack stops m t r k u → RunsBackToDepth stops n limit t (Stopped r) k u
stopped_back stops n limit m k t u r plain le deep runs = record {
  moves = runs.moves;
  few = le;
  passed = passed_back stops n limit m k t u r deep runs;
  ends = inl (left_some (stop_back stops t k) (k == m) r plain (runs.least.reached ∙ runs.no_memory));
}

depth_reached : (stops : List Numbered) (n limit m k : ℕ) (t u : Timeline) → IsFirstShallow t n limit (Some m) → RunsBack stops m t Limit k u → RunsBackToDepth stops n limit t Depth k u
depth_reached stops n limit m k t u first runs =
    let at = at_limit (stop_back stops t k) m k (no_limit stops t k) runs.least.reached in
    let e : k ≡ m = at.1 in
    let some : 0 < m = first.0 in
    let le : m ≤ limit = first.1 in
    record {
      moves = runs.moves;
      few = omega (arith, e, le);
      passed = passed_back stops n limit m k t u Limit (λ j above lt. first.3 j above (omega (arith, lt, e))) runs;
      ends = (at.0, omega (arith, e, some), subst (λ i. depth (gone i t) ≤ n) (sym e) first.2);
    }

-- it stopped before it came there
before : (stops : List Numbered) (n limit m k : ℕ) (t u : Timeline) (r : Reason) → (r ≡ Limit → ⊥) → IsFirstShallow t n limit (Some m) → RunsBack stops m t r k u → RunsBackToDepth stops n limit t (Stopped r) k u
before stops n limit m k t u r plain first runs =
    let few : k ≤ m = least-within (stop_back stops t) m k r runs.least in
    let le : m ≤ limit = first.1 in
    stopped_back stops n limit m k t u r plain (omega (arith, few, le)) (λ j some lt. first.3 j some (omega (arith, lt, few))) runs

past : (stops : List Numbered) (n limit k : ℕ) (t u : Timeline) (r : Reason) → (r ≡ Limit → ⊥) → IsFirstShallow t n limit None → k ≤ length t.past → RunsBack stops limit t r k u → RunsBackToDepth stops n limit t (Stopped r) k u
past stops n limit k t u r plain none there runs =
    let few : k ≤ limit = least-within (stop_back stops t) limit k r runs.least in
    stopped_back stops n limit limit k t u r plain few (λ j some lt. none j some (omega (arith, lt, few)) (omega (arith, lt, there))) runs

-- a run whose limit is where so few calls are open
pub depth-found : (stops : List Numbered) (n limit m k : ℕ) (t u : Timeline) (r : Reason) → IsFirstShallow t n limit (Some m) → RunsBack stops m t r k u → RunsBackToDepth stops n limit t (depth_or r) k u
depth-found stops n limit m k t u Limit first runs = depth_reached stops n limit m k t u first runs
depth-found stops n limit m k t u End first runs = before stops n limit m k t u End (λ e. absurd cc) first runs
depth-found stops n limit m k t u (Watch w) first runs = before stops n limit m k t u (Watch w) (λ e. absurd cc) first runs
depth-found stops n limit m k t u (Break b) first runs = before stops n limit m k t u (Break b) (λ e. absurd cc) first runs
depth-found stops n limit m k t u Start first runs = before stops n limit m k t u Start (λ e. absurd cc) first runs
depth-found stops n limit m k t u Oldest first runs = before stops n limit m k t u Oldest (λ e. absurd cc) first runs
depth-found stops n limit m k t u Memory first runs = before stops n limit m k t u Memory (λ e. absurd cc) first runs

-- a run on whose way there is no such place
pub depth-none : (stops : List Numbered) (n limit k : ℕ) (t u : Timeline) (r : Reason) → IsFirstShallow t n limit None → k ≤ length t.past → RunsBack stops limit t r k u → RunsBackToDepth stops n limit t (Stopped r) k u
depth-none stops n limit k t u Limit none there runs =
    let at = at_limit (stop_back stops t k) limit k (no_limit stops t k) runs.least.reached in
    let e : k ≡ limit = at.1 in
    record {
      moves = runs.moves;
      few = omega (arith, e);
      passed = passed_back stops n limit limit k t u Limit (λ j some lt. none j some (omega (arith, lt, e)) (omega (arith, lt, there))) runs;
      ends = inr (at.0, λ some. none k some (omega (arith, e)) there, e);
    }
depth-none stops n limit k t u End none there runs = past stops n limit k t u End (λ e. absurd cc) none there runs
depth-none stops n limit k t u (Watch w) none there runs = past stops n limit k t u (Watch w) (λ e. absurd cc) none there runs
depth-none stops n limit k t u (Break b) none there runs = past stops n limit k t u (Break b) (λ e. absurd cc) none there runs
depth-none stops n limit k t u Start none there runs = past stops n limit k t u Start (λ e. absurd cc) none there runs
depth-none stops n limit k t u Oldest none there runs = past stops n limit k t u Oldest (λ e. absurd cc) none there runs
depth-none stops n limit k t u Memory none there runs = past stops n limit k t u Memory (λ e. absurd cc) none there runs

-- ---- what a machine says by its own program

pub shallow-by : {A : Type 0} (q p : Program A) (n : ℕ) (s x : State) (pokes : List Poked) (from to : ℕ) (r : Option Hit) → q ≡ p
    → (AreMoves q s pokes to → x ≡ walk q s pokes from → IsLastHit (shallow_at q n s pokes) from to r)
    → AreMoves p s pokes to → x ≡ walk p s pokes from → IsLastHit (shallow_at p n s pokes) from to r
shallow-by {A} q p n s x pokes from to r e says = subst (λ (o : Program A). AreMoves o s pokes to → x ≡ walk o s pokes from → IsLastHit (shallow_at o n s pokes) from to r) e says

pub runs-by : {A : Type 0} (q p : Program A) (list : List NumberedStop) (limit : ℕ) (s t : Timeline) (r : Reason) (k : ℕ) (u : Timeline) → q ≡ p → s ≡ t → RunsBack (named_stops q list) limit s r k u → RunsBack (named_stops p list) limit t r k u
runs-by {A} q p list limit s t r k u e f runs =
    subst (λ (v : Timeline). RunsBack (named_stops p list) limit v r k u) f (subst (λ (o : Program A). RunsBack (named_stops o list) limit s r k u) e runs)

-- ---- a machine that is brought back

pub reaches-moved : {A : Type 0} (p q : Program A) (kept other : List State) (positions here : List ℕ) (pokes made : List Poked) (n : ℕ) → q ≡ p → other ≡ kept → here ≡ positions → made ≡ pokes → IsKept p kept positions pokes n
    → Reaches q other here made n
reaches-moved p q kept other positions here pokes made n e f g h is = reaches-as q other positions here pokes made n g h (n, omega arith, kept-as p q kept other positions pokes n (sym e) (sym f) is)

pub held-jumped : {A : Type 0} (p q : Program A) (w : Whole A) (kept mid other : List State) (positions : List ℕ) (pokes made : List Poked) (n : ℕ) → IsKept p kept positions pokes n → q ≡ p → mid ≡ kept → w.program ≡ q → other ≡ mid
    → made ≡ pokes → state_of w ≡ walk q (first_of mid) made n → Holds w other positions pokes n
held-jumped p q w kept mid other positions pokes made n is e f now last same at = record {
  is_kept = kept-as p w.program kept other positions pokes n (sym (now ∙ e)) (sym (last ∙ f)) is;
  now = at ∙ ap (λ (qs : List Poked). walk q (first_of mid) qs n) same ∙ walk-as q w.program mid other pokes n (sym now) (sym last);
}

-- what was found, as code gives it
pub first-held : {A : Type 0} (p : Program A) (s : State) (pokes made : List Poked) (n most limit low : ℕ) (found other : Option Hit) → low ≡ n - limit → made ≡ pokes → IsLastHit (shallow_at p most s made) low n found → found ≡ other
    → IsFirstShallow (timeline_at p s pokes n) most limit (option_map (λ (h : Hit). n - h.position) other)
first-held {A} p s pokes made n most limit low found other is same last e =
    subst (λ (o : Option Hit). IsFirstShallow (timeline_at p s pokes n) most limit (option_map (λ (h : Hit). n - h.position) o)) e
    (first-shallow p s pokes n most limit low found is (subst (λ (qs : List Poked). IsLastHit (shallow_at p most s qs) low n found) same last))
