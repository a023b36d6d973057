-- One move, and what is kept of the states before it.
use Rattle.std.proofs.Common.{◌≡◌, refl, sym, ap, ◌∙◌, subst, ℕ, zero, suc, ◌+◌, ◌-◌, ◌≤◌, List, [], ◌∷◌, ◌++◌, length, take, drop, append_assoc, Option, Some, None, arith}
use Rattle.std.proofs.lemmas.List.{append-nil, reverse-append, length-take, length-append, take-append-drop, length-reverse}
use Rattle.std.proofs.Math.Seq.{drop-append_seam}
use Rattle.std.specs.Prelude.{reverse}
use Rattle.qil_semantics.specs.State.{State}
use Rattle.qil_semantics.specs.Timeline.{Timeline, begun, position, states, newest, forgotten_of, to, back}
use Rattle.qil_semantics.specs.Moves.{IsKeptEnd, HasBack, Undone}

pub none_some : {X Y : Type 0} {x : X} → None ≡ Some x → Y
none_some e = absurd (subst (λ o. elim o as (λ _. Type 0) [ None ↦ Unit {0} | Some y ↦ ⊥ ]) e tt)

-- ---- back undoes a move

undone : (now s : State) (past : List State) (f : ℕ) (keeps : Option ℕ) → keeps ≡ None
    → back (to s (record { now = now; past = past; forgotten = f; keeps = keeps })) ≡ Some (record { now = now; past = past; forgotten = f; keeps = keeps })
undone now s past f None h = refl
undone now s past f (Some n) h = none_some (sym h)

-- where everything is kept
pub back-to : (t : Timeline) (s : State) → t.keeps ≡ None → back (to s t) ≡ Some t
back-to t s h = undone t.now s t.past t.forgotten t.keeps h

-- a timeline less its oldest states but n
pub lightened : ℕ → Timeline → Timeline
lightened n t = record t { past = take n t.past; forgotten = t.forgotten + (suc (length t.past) - suc n) }

bounded : (now s : State) (past : List State) (f n : ℕ) (keeps : Option ℕ) → keeps ≡ Some (suc n)
    → back (to s (record { now = now; past = past; forgotten = f; keeps = keeps })) ≡ Some (lightened n (record { now = now; past = past; forgotten = f; keeps = keeps }))
unfolding lightened
bounded now s past f n keeps h = rw h refl

pub back-bounded : (t : Timeline) (s : State) (n : ℕ) → t.keeps ≡ Some (suc n) → back (to s t) ≡ Some (lightened n t)
back-bounded t s n h = bounded t.now s t.past t.forgotten n t.keeps h

pub lightened-kept : (t : Timeline) (n : ℕ) → IsKeptEnd t (lightened n t)
unfolding lightened
lightened-kept t n = record {
  same_state = refl;
  same_position = let e = length-take n t.past in omega (arith, e);
  forgot = drop n t.past;
  newest = sym (take-append-drop n t.past);
}

whole : (n : ℕ) (xs : List State) → length xs ≤ n → take n xs ≡ xs
whole zero [] h = refl
whole (suc n) [] h = refl
whole zero (x ∷ xs) h = absurd (omega (arith, h))
whole (suc n) (x ∷ xs) h = ap (λ ys. x ∷ ys) (whole n xs (omega (arith, h)))

-- where there is room for one move more, nothing was forgotten
pub lightened-whole : (t : Timeline) (n : ℕ) → length t.past ≤ n → lightened n t ≡ t
unfolding lightened
lightened-whole t n h =
    let same : t.forgotten + (suc (length t.past) - suc n) ≡ t.forgotten = omega (arith, h) in
    rw (whole n t.past h) (rw same refl)

pub undone-bounded : (s : State) (t : Timeline) (n : ℕ) → t.keeps ≡ Some (suc n) → Undone n t (back (to s t))
undone-bounded s t n h = record { before = lightened n t; gives = back-bounded t s n h; is_end = lightened-kept t n; is_all = λ few. lightened-whole t n few }

-- ---- positions

counted : (f : ℕ) (now : State) (past : List State) (keeps : Option ℕ) → forgotten_of keeps f (now ∷ past) + length (newest keeps (now ∷ past)) ≡ f + length past + 1
counted f now past None = omega arith
counted f now past (Some n) = let e = length-take n (now ∷ past) in omega (arith, e)

pub position-to : (t : Timeline) (s : State) → position (to s t) ≡ position t + 1
position-to t s = counted t.forgotten t.now t.past t.keeps

-- ---- what is kept

reverse-cons : (s : State) (past : List State) → reverse (s ∷ past) ≡ reverse past ++ (s ∷ [])
reverse-cons s past = reverse-append (s ∷ []) past

-- the last states of a list
cut_prefix : (n : ℕ) (xs : List State) → reverse (take n xs) ≡ drop (length xs - n) (reverse xs)
cut_prefix n xs =
    let parts : reverse xs ≡ reverse (drop n xs) ++ reverse (take n xs) = rw (sym (reverse-append (take n xs) (drop n xs))) (ap reverse (sym (take-append-drop n xs))) in
    let prefix : length xs - n ≡ length (reverse (drop n xs)) =
    (let a = length-take n xs in let b = ap length (take-append-drop n xs) in let c = length-append (take n xs) (drop n xs) in let d = length-reverse (drop n xs) in omega (arith, a, b, c, d)) in
    rw prefix (rw parts (sym (drop-append_seam (reverse (drop n xs)) (reverse (take n xs)))))

longer : (s : State) (past : List State) → length (reverse past ++ (s ∷ [])) ≡ suc (length past)
longer s past = let a = length-append (reverse past) (s ∷ []) in let b = length-reverse past in omega (arith, a, b)

-- The kept states with the new one after them, less the first ones where they are more than n and the one now.
pub states-bounded : (t : Timeline) (s : State) (n : ℕ) → t.keeps ≡ Some n → states (to s t) ≡ drop (length (states t ++ (s ∷ [])) - suc n) (states t ++ (s ∷ []))
states-bounded t s n h =
    rw h (rw (sym (reverse-cons s (t.now ∷ t.past))) (cut_prefix (suc n) (s ∷ (t.now ∷ t.past)) ∙ ap (λ k. drop (k - suc n) (reverse (s ∷ (t.now ∷ t.past)))) (sym (length-reverse (s ∷ (t.now ∷ t.past))))))

pub states-unbounded : (t : Timeline) (s : State) → t.keeps ≡ None → states (to s t) ≡ states t ++ (s ∷ [])
states-unbounded t s h = rw h (reverse-cons s (t.now ∷ t.past))

-- ---- a bounded timeline is the kept end

pub kept-begun : (keeps : Option ℕ) (s : State) → IsKeptEnd (begun None s) (begun keeps s)
kept-begun keeps s = record { same_state = refl; same_position = refl; forgot = []; newest = refl }

newest_of : (keeps : Option ℕ) (xs : List State) → (forgot : List State) × (xs ≡ newest keeps xs ++ forgot)
newest_of None xs = ([], sym (append-nil xs))
newest_of (Some n) xs = (drop n xs, sym (take-append-drop n xs))

all_kept : (now : State) (past : List State) (keeps : Option ℕ) → keeps ≡ None → newest keeps (now ∷ past) ≡ now ∷ past
all_kept now past None h = refl
all_kept now past (Some n) h = none_some (sym h)

pub kept-to : (t u : Timeline) (s : State) → t.keeps ≡ None → IsKeptEnd t u → IsKeptEnd (to s t) (to s u)
kept-to t u s h k =
    let (forgot, parts) = newest_of u.keeps (u.now ∷ u.past) in
    record {
      same_state = refl;
      same_position = position-to u s ∙ (ap (λ n. n + 1) k.same_position ∙ sym (position-to t s));
      forgot = forgot ++ k.forgot;
      newest = all_kept t.now t.past t.keeps h
          ∙ (ap (λ now. now ∷ t.past) (sym k.same_state)
          ∙ (ap (λ past. u.now ∷ past) k.newest
          ∙ (ap (λ prefix. prefix ++ k.forgot) parts ∙ append_assoc (newest u.keeps (u.now ∷ u.past)) forgot k.forgot)));
    }

from_some : {X : Type 0} (x y : X) → Some x ≡ Some y → x ≡ y
from_some x y e = cc

both_back : (now now2 : State) (f f2 : ℕ) (keeps keeps2 : Option ℕ) (past2 past forgot : List State) (w : Timeline)
    → now ≡ now2 → past ≡ past2 ++ forgot → f2 + length past2 ≡ f + length past
    → back (record { now = now2; past = past2; forgotten = f2; keeps = keeps2 }) ≡ Some w
    → HasBack (record { now = now; past = past; forgotten = f; keeps = keeps }) w
both_back now now2 f f2 keeps keeps2 [] past forgot w same parts places b = none_some b
both_back now now2 f f2 keeps keeps2 (s ∷ past2) past forgot w same parts places b =
    let total : length past ≡ suc (length (past2 ++ forgot)) = ap length parts in (
      record { now = s; past = past2 ++ forgot; forgotten = f; keeps = keeps },
      rw parts refl,
      subst (λ x. IsKeptEnd (record { now = s; past = past2 ++ forgot; forgotten = f; keeps = keeps }) x) (from_some _ w b)
          (record { same_state = refl; same_position = omega (arith, places, total); forgot = forgot; newest = refl }),
    )

pub kept-back : (t u w : Timeline) → IsKeptEnd t u → back u ≡ Some w → HasBack t w
kept-back t u w k b = both_back t.now u.now t.forgotten u.forgotten t.keeps u.keeps u.past t.past k.forgot w (sym k.same_state) k.newest k.same_position b
