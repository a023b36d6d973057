-- Up to n moves along a timeline, as the states that are added or taken away.
use Rattle.std.proofs.Common.{◌≡◌, refl, sym, ap, ◌∙◌, subst, inl, inr, ◌⊎◌, ℕ, zero, suc, ◌<◌, min, Bool, true, false, cond, List, [], ◌∷◌, ◌++◌, length, take, drop, arith}
use Rattle.std.proofs.lemmas.Bool.{cases_lt}
use Rattle.std.proofs.lemmas.List.{reverse-append, length-take, length-reverse, take-append-drop}
use Rattle.std.proofs.Math.Seq.{drop-cons}
use Rattle.std.specs.Prelude.{reverse, slice_index_or}
use Rattle.qil_tree.specs.declared.tree.Program.{Program}
use Rattle.qil_semantics.specs.State.{State}
use Rattle.qil_semantics.specs.Step.{step_of}
use Rattle.qil_semantics.specs.Timeline.{Timeline, at_end, forward, moved, gone}
use Rattle.qil_semantics.specs.Moves.{least, forward_by, back_by, GoesForward, GoesBack}

-- ---- forward

-- the first of some moves may be made first
pub moved-prefix : {A : Type 0} (p : Program A) (k : ℕ) (t : Timeline) → moved p k (forward p t) ≡ moved p (suc k) t
unfolding moved
moved-prefix p zero t = refl
moved-prefix p (suc k) t = ap (λ u. forward p u) (moved-prefix p k t)

stays : {A : Type 0} (p : Program A) (n : ℕ) (t : Timeline) → (0 ≡ n) ⊎ (at_end t ≡ true) → GoesForward p n t t
stays p n t h = record { added = []; grows = refl; steps = tt; few = omega arith; stops = h }

one_more : (n m : ℕ) (E : Type 0) → (n ≡ m) ⊎ E → (suc n ≡ suc m) ⊎ E
one_more n m E (inl e) = inl (omega (arith, e))
one_more n m E (inr e) = inr e

goes : {A : Type 0} (p : Program A) (n : ℕ) (t u : Timeline) → at_end t ≡ false → GoesForward p n (forward p t) u → GoesForward p (suc n) t u
goes p n t u e h = record {
  added = step_of p t.now ∷ h.added;
  grows = h.grows;
  steps = (e, refl, h.steps);
  few = let few = h.few in omega (arith, few);
  stops = one_more (length h.added) n (at_end u ≡ true) h.stops;
}

-- one move and those after it, to the same place
onward : {A : Type 0} (p : Program A) (n : ℕ) (t : Timeline)
    → moved p (least (λ k. at_end (moved p k (forward p t))) n) (forward p t) ≡ moved p (suc (least (λ k. at_end (moved p (suc k) t)) n)) t
onward p n t =
    moved-prefix p (least (λ k. at_end (moved p k (forward p t))) n) t
    ∙ ap (λ f. moved p (suc (least f n)) t) (λ i k. at_end (moved-prefix p k t i))

by_end : {A : Type 0} (p : Program A) (n : ℕ) (t : Timeline) (b : Bool) → at_end t ≡ b → GoesForward p n (forward p t) (forward_by p n (forward p t))
    → GoesForward p (suc n) t (moved p (cond b zero (suc (least (λ k. at_end (moved p (suc k) t)) n))) t)
unfolding moved
by_end p n t true e h = stays p (suc n) t (inr e)
by_end p n t false e h = goes p n t (moved p (suc (least (λ k. at_end (moved p (suc k) t)) n)) t) e (subst (λ u. GoesForward p n (forward p t) u) (onward p n t) h)

pub goes-forward_by : {A : Type 0} (p : Program A) (n : ℕ) (t : Timeline) → GoesForward p n t (forward_by p n t)
unfolding least moved
goes-forward_by p zero t = stays p zero t (inl refl)
goes-forward_by p (suc n) t = by_end p n t (at_end t) refl (goes-forward_by p n (forward p t))

-- ---- back

-- a list, its k-th element between what stands before and after it
parted : (k : ℕ) (xs : List State) (d : State) → k < length xs → xs ≡ take k xs ++ (slice_index_or xs k d ∷ drop (suc k) xs)
parted k xs d h = sym (take-append-drop k xs) ∙ ap (λ ys. take k xs ++ ys) (drop-cons xs k d h)

turned : (k : ℕ) (xs : List State) (d : State) → k < length xs → reverse xs ≡ reverse (slice_index_or xs k d ∷ drop (suc k) xs) ++ reverse (take k xs)
turned k xs d h = ap reverse (parted k xs d h) ∙ reverse-append (take k xs) (slice_index_or xs k d ∷ drop (suc k) xs)

none_left : (xs : List State) → drop (length xs) xs ≡ []
none_left [] = refl
none_left (x ∷ xs) = none_left xs

ends : (n : ℕ) (past : List State) → (min n (length past) ≡ n) ⊎ (drop (min n (length past)) past ≡ [])
ends n past = elim (cases_lt (length past) n) [
  | inl l ↦ (let e : min n (length past) ≡ length past = omega (arith, l) in inr (rw e (none_left past)))
  | inr g ↦ inl (omega (arith, g))
]

pub goes-back_by : (n : ℕ) (t : Timeline) → GoesBack n t (back_by n t)
unfolding gone
goes-back_by n t =
    let k : ℕ = min n (length t.past) in
    let within : min n (length t.past) < length (t.now ∷ t.past) = omega arith in
    let l : length (reverse (take (min n (length t.past)) (t.now ∷ t.past))) ≡ min n (length t.past) =
    (let a = length-reverse (take (min n (length t.past)) (t.now ∷ t.past)) in let b = length-take (min n (length t.past)) (t.now ∷ t.past) in omega (arith, a, b)) in
    record {
      dropped = reverse (take (min n (length t.past)) (t.now ∷ t.past));
      shrinks = turned (min n (length t.past)) (t.now ∷ t.past) t.now within;
      same = (refl, refl);
      few = omega (arith, l);
      stops = rw l (ends n t.past);
    }

-- at a final state no step is made
pub forward_by-final : {A : Type 0} (p : Program A) (n : ℕ) (t : Timeline) → at_end t ≡ true → forward_by p n t ≡ t
unfolding least moved
forward_by-final p zero t h = refl
forward_by-final p (suc n) t h = rw h refl
