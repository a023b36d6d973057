-- Runs to a depth, move by move.
use Rattle.std.proofs.Common.{◌≡◌, refl, sym, ap, ◌∙◌, subst, ℕ, suc, [], ◌∷◌, ◌+◌, ◌<◌, ◌≤◌, Bool, true, false, cond, List, length, inl, inr, Option, Some, None, arith}
use Rattle.std.specs.Option.{option_or}
use borrow.Author.Count.{below_more}
use Rattle.qil_tree.specs.declared.tree.Program.{Program}
use Rattle.qil_semantics.specs.Timeline.{Timeline, forward, back, at_end, moved, gone, position, oldest}
use Rattle.qil_semantics.specs.Stops.{Numbered, stopped}
use Rattle.qil_semantics.specs.Runs.{if_holds, stop_on, stop_back, bottom}
use Rattle.qil_semantics.specs.declared.reason.Reason.{Reason}
use Rattle.qil_semantics.specs.declared.reason.Reason.TheVariants.{End, Start, Oldest, Limit, Memory}
use Rattle.qil_frames.specs.Frames.{SlotFrame}
use Rattle.qil_history.specs.qil_state.State.{frames_state}
use Rattle.qil_stops.proofs.OnWay as on
use Rattle.qil_stops.proofs.BackWay as off
use Rattle.qil_stops.specs.declared.depth_end.DepthEnd.{DepthEnd}
use Rattle.qil_stops.specs.declared.depth_end.DepthEnd.TheVariants.{Depth, Stopped}
use Rattle.qil_stops.specs.Depths.{depth, Passes, Ends, RunsToDepth, RunsBackToDepth, bottom_or_depth}

-- ---- frames

-- a state has as many frames as a machine that represents it
pub as_many : {A : Type 0} (p : Program A) (fs : List SlotFrame) → length fs ≡ length (frames_state p fs)
as_many p [] = refl
as_many p (f ∷ fs) = ap suc (as_many p fs)

-- ---- depths so far

-- after each of the first k moves more than n calls are open
abbrev pub AreDeep : (ℕ → Timeline) → ℕ → ℕ → Type 0
AreDeep at n k = (j : ℕ) → j < k + 1 → 0 < j → n < depth (at j)

pub deep-begun : (at : ℕ → Timeline) (n : ℕ) → AreDeep at n 0
deep-begun at n j lt some = absurd (omega (arith, lt, some))

pub deep-more : (at : ℕ → Timeline) (n k : ℕ) (new : Timeline) → AreDeep at n k → new ≡ at (k + 1) → n < depth new → AreDeep at n (k + 1)
deep-more at n k new deep is here = below_more (λ j. 0 < j → n < depth (at j)) (k + 1) deep (λ some. subst (λ (t : Timeline). n < depth t) is here)

passes : (stop : ℕ → Option Reason) (at : ℕ → Timeline) (n k : ℕ) → on.Passes stop k → AreDeep at n k → Passes stop at n k
passes stop at n k passed deep = record { unstopped = passed; deep = λ j lt some. deep j (omega (arith, lt)) some }

-- ---- forward

-- the run is over, and no move was left to make
pub depth-end : {A : Type 0} (p : Program A) (stops : List Numbered) (n limit k : ℕ) (t now new : Timeline) → on.IsOnWay p stops t k now → AreDeep (λ j. moved p j t) n k → at_end now ≡ true → new ≡ now → k ≤ limit →
    RunsToDepth p stops n limit t (Stopped End) k new
depth-end p stops n limit k t now new way deep over same le = record {
  moves = same ∙ way.moves;
  few = le;
  passed = passes (stop_on p stops t) (λ j. moved p j t) n k way.passed deep;
  ends = inl (way.here ∙ ap (λ b. if_holds b End) over);
}

-- there is no memory for the next move
pub depth-memory : {A : Type 0} (p : Program A) (stops : List Numbered) (n limit k : ℕ) (t now new : Timeline) → on.IsOnWay p stops t k now → AreDeep (λ j. moved p j t) n k → at_end now ≡ false → new ≡ now → k < limit →
    RunsToDepth p stops n limit t (Stopped Memory) k new
depth-memory p stops n limit k t now new way deep goes same lt = record {
  moves = same ∙ way.moves;
  few = omega (arith, lt);
  passed = passes (stop_on p stops t) (λ j. moved p j t) n k way.passed deep;
  ends = inr (on.running p stops t k now way goes, λ some. deep k (omega arith) some, lt);
}

-- what holds after one move more of a run that isn't over
pub record OneMore {A : Type 0} (p : Program A) (stops : List Numbered) (n limit k : ℕ) (t new : Timeline) (found : Option Reason) : Type 0 where
  pub moves : new ≡ moved p (k + 1) t
  pub few : k + 1 ≤ limit
  pub passed : Passes (stop_on p stops t) (λ j. moved p j t) n (k + 1)
  pub here : stop_on p stops t (k + 1) ≡ option_or (if_holds (at_end new) End) found

pub one-more : {A : Type 0} (p : Program A) (stops : List Numbered) (n limit k : ℕ) (t now new : Timeline) (found : Option Reason) → on.IsOnWay p stops t k now → AreDeep (λ j. moved p j t) n k → at_end now ≡ false →
    new ≡ forward p now → found ≡ stopped stops now.now new.now → k < limit → OneMore p stops n limit k t new found
one-more p stops n limit k t now new found way deep goes f is lt = record {
  moves = on.moved-more p k t now new way.moves f;
  few = omega (arith, lt);
  passed = record { unstopped = on.passes_more (stop_on p stops t) k way.passed (on.running p stops t k now way goes); deep = deep };
  here = on.on-next p stops k t now new found way.moves f is;
}

-- a stop holds, or the run is over
pub depth-stop : {A : Type 0} (p : Program A) (stops : List Numbered) (n limit k : ℕ) (t new : Timeline) (r q : Reason) (b : Bool) → OneMore p stops n limit k t new (Some r) → at_end new ≡ b → q ≡ cond b End r →
    RunsToDepth p stops n limit t (Stopped q) (k + 1) new
depth-stop p stops n limit k t new r q true one at is = record {
  moves = one.moves;
  few = one.few;
  passed = one.passed;
  ends = inl (one.here ∙ ap (λ b. option_or (if_holds b End) (Some r)) at ∙ ap Some (sym is));
}
depth-stop p stops n limit k t new r q false one at is = record {
  moves = one.moves;
  few = one.few;
  passed = one.passed;
  ends = inl (one.here ∙ ap (λ b. option_or (if_holds b End) (Some r)) at ∙ ap Some (sym is));
}

-- no more calls are open, or the run is over
pub depth-shallow : {A : Type 0} (p : Program A) (stops : List Numbered) (n limit k : ℕ) (t new : Timeline) (end : DepthEnd) (b : Bool) → OneMore p stops n limit k t new None → at_end new ≡ b → end ≡ cond b (Stopped End) Depth →
    depth new ≤ n → RunsToDepth p stops n limit t end (k + 1) new
depth-shallow p stops n limit k t new end true one at is le = subst (λ e. RunsToDepth p stops n limit t e (k + 1) new) (sym is) (record {
  moves = one.moves;
  few = one.few;
  passed = one.passed;
  ends = inl (one.here ∙ ap (λ b. option_or (if_holds b End) None) at);
})
depth-shallow p stops n limit k t new end false one at is le = subst (λ e. RunsToDepth p stops n limit t e (k + 1) new) (sym is) (record {
  moves = one.moves;
  few = one.few;
  passed = one.passed;
  ends = (one.here ∙ ap (λ b. option_or (if_holds b End) None) at, omega arith, subst (λ (u : Timeline). depth u ≤ n) one.moves le);
})

-- the limit is reached, or the run is over
pub depth-last : {A : Type 0} (p : Program A) (stops : List Numbered) (n limit k : ℕ) (t now : Timeline) (q : Reason) (b : Bool) → on.IsOnWay p stops t k now → AreDeep (λ j. moved p j t) n k → at_end now ≡ b → q ≡ cond b End Limit →
    k ≡ limit → RunsToDepth p stops n limit t (Stopped q) limit now
depth-last p stops n limit k t now q true way deep at is e =
    subst (λ m. RunsToDepth p stops n limit t (Stopped q) m now) e
    (subst (λ r. RunsToDepth p stops n limit t (Stopped r) k now) (sym is) (depth-end p stops n limit k t now now way deep at refl (omega (arith, e))))
depth-last p stops n limit k t now q false way deep at is e =
    subst (λ m. RunsToDepth p stops n limit t (Stopped q) m now) e
    (subst (λ r. RunsToDepth p stops n limit t (Stopped r) k now) (sym is) (record {
      moves = way.moves;
      few = omega (arith, e);
      passed = passes (stop_on p stops t) (λ j. moved p j t) n k way.passed deep;
      ends = inr (on.running p stops t k now way at, λ some. deep k (omega arith) some, e);
    }))

-- ---- back

-- the oldest state that is kept is reached, and no move was left to undo
pub depth-bottom : (stops : List Numbered) (n limit k : ℕ) (t now new : Timeline) (r : Reason) → off.IsBackWay stops t k now → AreDeep (λ j. gone j t) n k → bottom now 0 ≡ Some r → new ≡ now → k ≤ limit →
    RunsBackToDepth stops n limit t (Stopped r) k new
depth-bottom stops n limit k t now new r way deep at same le = record {
  moves = same ∙ way.moves;
  few = le;
  passed = passes (stop_back stops t) (λ j. gone j t) n k way.passed deep;
  ends = inl (way.here ∙ at);
}

-- what holds after one move more
pub record OneBack (stops : List Numbered) (n limit k : ℕ) (t new : Timeline) (found : Option Reason) : Type 0 where
  pub moves : new ≡ gone (k + 1) t
  pub few : k + 1 ≤ limit
  pub passed : Passes (stop_back stops t) (λ j. gone j t) n (k + 1)
  pub here : stop_back stops t (k + 1) ≡ option_or found (bottom new 0)

pub one-back : (stops : List Numbered) (n limit k : ℕ) (t now new : Timeline) (found : Option Reason) → off.IsBackWay stops t k now → AreDeep (λ j. gone j t) n k → back now ≡ Some new →
    found ≡ stopped stops now.now new.now → k < limit → OneBack stops n limit k t new found
one-back stops n limit k t now new found way deep f is lt =
    let moves : new ≡ gone (k + 1) t = off.gone-more k t now new way.moves f in
    let one = off.back-left now new f in
    let fewer : length now.past ≡ length new.past + 1 = one.0 in
    let before : length now.past + k ≡ length t.past = way.left in
    let left : length new.past + (k + 1) ≡ length t.past = omega (arith, fewer, before) in
    record {
      moves = moves;
      few = omega (arith, lt);
      passed = record { unstopped = on.passes_more (stop_back stops t) k way.passed (off.going stops t k now way (off.moved_back now new f)); deep = deep };
      here = off.back-next stops k t now new found way.moves moves is ∙ ap (option_or found) (off.bottom-here t new (k + 1) left (one.1 ∙ way.forgotten));
    }

pub depth-back_stop : (stops : List Numbered) (n limit k : ℕ) (t new : Timeline) (r : Reason) → OneBack stops n limit k t new (Some r) → RunsBackToDepth stops n limit t (Stopped r) (k + 1) new
depth-back_stop stops n limit k t new r one = record { moves = one.moves; few = one.few; passed = one.passed; ends = inl one.here }

-- no more calls are open, or the oldest state is reached
pub depth-back_shallow : (stops : List Numbered) (n limit k : ℕ) (t new : Timeline) (end : DepthEnd) (o : Option Reason) → OneBack stops n limit k t new None → bottom new 0 ≡ o → end ≡ bottom_or_depth o → depth new ≤ n →
    RunsBackToDepth stops n limit t end (k + 1) new
depth-back_shallow stops n limit k t new end None one at is le = subst (λ e. RunsBackToDepth stops n limit t e (k + 1) new) (sym is) (record {
  moves = one.moves;
  few = one.few;
  passed = one.passed;
  ends = (one.here ∙ ap (option_or None) at, omega arith, subst (λ (u : Timeline). depth u ≤ n) one.moves le);
})
depth-back_shallow stops n limit k t new end (Some r) one at is le = subst (λ e. RunsBackToDepth stops n limit t e (k + 1) new) (sym is) (record {
  moves = one.moves;
  few = one.few;
  passed = one.passed;
  ends = inl (one.here ∙ ap (option_or None) at);
})
