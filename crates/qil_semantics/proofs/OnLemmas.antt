-- Forward: the least number of moves with a reason to stop is the least place that is a stop.
use Rattle.std.proofs.Common.{◌≡◌, refl, sym, ap, ◌∙◌, subst, inl, inr, ◌⊎◌, ℕ, zero, suc, ◌≤◌, ◌<◌, Bool, true, false, List, Some, None, eq-eqb, arith}
use Rattle.std.proofs.lemmas.Bool.{ne_eqb}
use Rattle.std.proofs.lemmas.Bool.Decides.{Decides-eqb}
use Rattle.std.specs.Prelude.{◌==◌}
use Rattle.std.specs.Option.{option_or}
use Rattle.qil_tree.specs.declared.tree.Program.{Program}
use Rattle.qil_semantics.specs.State.{State, is_final}
use Rattle.qil_semantics.specs.Step.{step_of}
use Rattle.qil_semantics.specs.Timeline.{Timeline, at_end, moved}
use Rattle.qil_semantics.specs.Stops.{Numbered, AreListed, stopped}
use Rattle.qil_semantics.specs.Runs.{if_holds, within, stop_on, stopping, IsLeast, RunsOn}
use Rattle.qil_semantics.specs.Targets.{rank, Halts, after, StopsForward, ForwardTarget, Comes, Continues}
use Rattle.qil_semantics.specs.declared.reason.Reason.{Reason}
use Rattle.qil_semantics.specs.declared.reason.Reason.TheVariants.{End, Watch, Break, Start, Oldest, Limit, Memory}
use Rattle.qil_semantics.proofs.FirstLemmas.{First, none_of, some_of, first_iff, first_or, first_holds}
use Rattle.qil_semantics.proofs.HoldLemmas.{first_stopped}

pub now-after : {A : Type 0} (p : Program A) (k : ℕ) (t : Timeline) → (moved p k t).now ≡ after p t.now k
unfolding moved
now-after p zero t = refl
now-after p (suc k) t = ap (λ s. step_of p s) (now-after p k t)

pub equal : (a b : ℕ) → (a == b) ≡ true → a ≡ b
equal a b e = grind (arith, e, Decides-eqb a b)

pub is_equal : (a b : ℕ) → a ≡ b → (a == b) ≡ true
is_equal a b e = eq-eqb a b e

pub unequal : (a b : ℕ) → a < b → (a == b) ≡ false
unequal a b l = ne_eqb a b (λ e. omega (arith, l, e))

pub from_some : {X : Type 0} (x y : X) → Some x ≡ Some y → x ≡ y
from_some x y e = cc

-- ---- the reasons after a move

pub halts_rank : (stops : List Numbered) (a b : State) (q : Reason) → Halts stops a b q → (0 < rank q) × (rank q ≤ 2)
halts_rank stops a b (Watch n) h = (omega arith, omega arith)
halts_rank stops a b (Break n) h = (omega arith, omega arith)
halts_rank stops a b End h = absurd h
halts_rank stops a b Start h = absurd h
halts_rank stops a b Oldest h = absurd h
halts_rank stops a b Limit h = absurd h
halts_rank stops a b Memory h = absurd h

abbrev Ends : State → Reason → Type 0
Ends b q = (q ≡ End) × (is_final b.status ≡ true)

abbrev pub Limits : ℕ → ℕ → Reason → Type 0
Limits limit k q = (q ≡ Limit) × ((k == limit) ≡ true)

abbrev OnReasons : List Numbered → ℕ → ℕ → State → State → Reason → Type 0
OnReasons stops limit i a b q = (Ends b q ⊎ Halts stops a b q) ⊎ Limits limit (suc i) q

low_ends : (stops : List Numbered) (a b : State) (q : Reason) → Ends b q ⊎ Halts stops a b q → rank q ≤ 2
low_ends stops a b q (inl h) = rw h.0 (omega arith)
low_ends stops a b q (inr h) = (halts_rank stops a b q h).1

first_on : (low : ℕ) (stops : List Numbered) (limit i : ℕ) (a b : State) → AreListed low stops
    → First (OnReasons stops limit i a b) (within limit (suc i) (option_or (if_holds (is_final b.status) End) (stopped stops a b)))
first_on low stops limit i a b l =
    first_or (λ q. Ends b q ⊎ Halts stops a b q) (Limits limit (suc i)) 2 (option_or (if_holds (is_final b.status) End) (stopped stops a b)) (if_holds (suc i == limit) Limit)
    (λ q h. low_ends stops a b q h) (λ q h. rw h.0 (omega arith))
    (first_or (Ends b) (Halts stops a b) 0 (if_holds (is_final b.status) End) (stopped stops a b)
    (λ q h. rw h.0 (omega arith)) (λ q h. (halts_rank stops a b q h).0)
    (first_holds (is_final b.status) End) (first_stopped low stops a b l))
    (first_holds (suc i == limit) Limit)

halts_on : {A : Type 0} (p : Program A) (stops : List Numbered) (limit : ℕ) (s : State) (i : ℕ) (q : Reason) → Halts stops (after p s i) (after p s (suc i)) q → StopsForward p stops limit s (suc i) q
halts_on p stops limit s i (Watch n) h = h
halts_on p stops limit s i (Break n) h = h
halts_on p stops limit s i End h = absurd h
halts_on p stops limit s i Start h = absurd h
halts_on p stops limit s i Oldest h = absurd h
halts_on p stops limit s i Limit h = absurd h
halts_on p stops limit s i Memory h = absurd h

on-to : {A : Type 0} (p : Program A) (stops : List Numbered) (limit : ℕ) (s : State) (i : ℕ) (q : Reason) → OnReasons stops limit i (after p s i) (after p s (suc i)) q → StopsForward p stops limit s (suc i) q
on-to p stops limit s i q (inl (inl h)) = rw h.0 h.1
on-to p stops limit s i q (inl (inr h)) = halts_on p stops limit s i q h
on-to p stops limit s i q (inr h) = rw h.0 (equal (suc i) limit h.1)

on-from : {A : Type 0} (p : Program A) (stops : List Numbered) (limit : ℕ) (s : State) (i : ℕ) (q : Reason) → StopsForward p stops limit s (suc i) q → OnReasons stops limit i (after p s i) (after p s (suc i)) q
on-from p stops limit s i (Watch n) h = inl (inr h)
on-from p stops limit s i (Break n) h = inl (inr h)
on-from p stops limit s i End h = inl (inl (refl, h))
on-from p stops limit s i Start h = absurd h
on-from p stops limit s i Oldest h = absurd h
on-from p stops limit s i Limit h = inr (refl, is_equal (suc i) limit h)
on-from p stops limit s i Memory h = absurd h

-- after a move the first reason to stop is the first that holds there
pub first_at : {A : Type 0} (p : Program A) (low : ℕ) (stops : List Numbered) (limit : ℕ) (t : Timeline) (i : ℕ) → AreListed low stops
    → First (StopsForward p stops limit t.now (suc i)) (within limit (suc i) (stop_on p stops t (suc i)))
unfolding stop_on
first_at p low stops limit t i l =
    let R : Reason → Type 0 = StopsForward p stops limit t.now (suc i) in
    subst (λ (a : State). First (StopsForward p stops limit t.now (suc i)) (within limit (suc i) (option_or (if_holds (is_final (moved p (suc i) t).now.status) End) (stopped stops a (moved p (suc i) t).now))))
    (sym (now-after p i t))
    (subst (λ (b : State). First (StopsForward p stops limit t.now (suc i)) (within limit (suc i) (option_or (if_holds (is_final b.status) End) (stopped stops (after p t.now i) b))))
    (sym (now-after p (suc i) t))
    (first_iff (OnReasons stops limit i (after p t.now i) (after p t.now (suc i))) (StopsForward p stops limit t.now (suc i))
    (within limit (suc i) (option_or (if_holds (is_final (after p t.now (suc i)).status) End) (stopped stops (after p t.now i) (after p t.now (suc i)))))
    (λ q h. on-to p stops limit t.now i q h) (λ q h. on-from p stops limit t.now i q h)
    (first_on low stops limit i (after p t.now i) (after p t.now (suc i)) l)))

-- ---- without a move

pub zero_case : (b : Bool) (limit : ℕ) (r : Reason) → within limit 0 (if_holds b End) ≡ Some r → ((b ≡ true) × Comes r 0 End 0) ⊎ ((b ≡ false) × (limit ≡ 0) × Comes r 0 Limit 0)
zero_case true limit r e = inl (refl, (sym (from_some End r e), refl))
zero_case false zero r e = inr (refl, refl, (sym (from_some Limit r e), refl))
zero_case false (suc l) r e = let f : (0 == suc l) ≡ false = unequal 0 (suc l) (omega arith) in let g = ap (λ b. if_holds b Limit) f in absurd (cc)

passed_zero : (b : Bool) (limit : ℕ) → within limit 0 (if_holds b End) ≡ None → (b ≡ false) × (0 < limit)
passed_zero true limit e = absurd (cc)
passed_zero false zero e = absurd (cc)
passed_zero false (suc l) e = (refl, omega arith)

zero_passed : (b : Bool) (limit : ℕ) → b ≡ false → 0 < limit → within limit 0 (if_holds b End) ≡ None
zero_passed b limit e l = rw e (rw (unequal 0 limit l) refl)

-- ---- from runs to targets

not_earlier : {A : Type 0} (p : Program A) (low : ℕ) (stops : List Numbered) (limit : ℕ) (t : Timeline) (i : ℕ) (q : Reason) → AreListed low stops
    → within limit i (stop_on p stops t i) ≡ None → StopsForward p stops limit t.now i q → ⊥
not_earlier p low stops limit t zero q l e h = absurd h
not_earlier p low stops limit t (suc i) q l e h = subst (λ o. First (StopsForward p stops limit t.now (suc i)) o) e (first_at p low stops limit t i l) q h

runs_to : {A : Type 0} (p : Program A) (low : ℕ) (stops : List Numbered) (limit : ℕ) (t : Timeline) (r : Reason) (k : ℕ) → AreListed low stops
    → IsLeast (stop_on p stops t) limit k r → stopping r ≡ Some r → Continues p stops limit t r k
unfolding stop_on
runs_to p low stops limit t r zero l h plain = elim (zero_case (at_end t) limit r (h.reached ∙ plain)) [ inl x ↦ inl x | inr y ↦ inr (inl y) ]
runs_to p low stops limit t r (suc i) l h plain =
    let (runs, limited) = passed_zero (at_end t) limit (h.passed 0 (omega arith)) in
    let here : First (StopsForward p stops limit t.now (suc i)) (Some r) = subst (λ o. First (StopsForward p stops limit t.now (suc i)) o) (h.reached ∙ plain) (first_at p low stops limit t i l) in
    inr (inr (
      runs,
      limited,
      record {
        is_stop = here.0;
        least = λ j q lt s. not_earlier p low stops limit t j q l (h.passed j lt) s;
        is_first = here.1;
      },
    ))

-- ---- from targets to runs

pub end_here : {A : Type 0} (p : Program A) (stops : List Numbered) (limit : ℕ) (t : Timeline) → at_end t ≡ true → IsLeast (stop_on p stops t) limit 0 End
unfolding stop_on
end_here p stops limit t e = record { passed = λ j lt. absurd (omega (arith, lt)); reached = rw e refl }

limit_here : {A : Type 0} (p : Program A) (stops : List Numbered) (limit : ℕ) (t : Timeline) → at_end t ≡ false → limit ≡ 0 → IsLeast (stop_on p stops t) limit 0 Limit
unfolding stop_on
limit_here p stops limit t e z = record { passed = λ j lt. absurd (omega (arith, lt)); reached = rw e (rw z refl) }

pub plain_stop : {A : Type 0} (p : Program A) (stops : List Numbered) (limit : ℕ) (s : State) (i : ℕ) (r : Reason) → StopsForward p stops limit s (suc i) r → Some r ≡ stopping r
plain_stop p stops limit s i End h = refl
plain_stop p stops limit s i (Watch n) h = refl
plain_stop p stops limit s i (Break n) h = refl
plain_stop p stops limit s i Start h = refl
plain_stop p stops limit s i Oldest h = refl
plain_stop p stops limit s i Limit h = refl
plain_stop p stops limit s i Memory h = absurd h

passes : {A : Type 0} (p : Program A) (low : ℕ) (stops : List Numbered) (limit : ℕ) (t : Timeline) (k : ℕ) (j : ℕ) → AreListed low stops → at_end t ≡ false → 0 < limit
    → ((i : ℕ) (r : Reason) → i < k → StopsForward p stops limit t.now i r → ⊥) → j < k → within limit j (stop_on p stops t j) ≡ None
unfolding stop_on
passes p low stops limit t k zero l e b least lt = zero_passed (at_end t) limit e b
passes p low stops limit t k (suc j) l e b least lt = none_of (StopsForward p stops limit t.now (suc j)) _ (first_at p low stops limit t j l) (λ q h. least (suc j) q lt h)

target_to : {A : Type 0} (p : Program A) (low : ℕ) (stops : List Numbered) (limit : ℕ) (t : Timeline) (r : Reason) (k : ℕ) → AreListed low stops → at_end t ≡ false → 0 < limit
    → ForwardTarget p stops limit t.now k r → IsLeast (stop_on p stops t) limit k r
target_to p low stops limit t r zero l e b h = absurd h.is_stop
target_to p low stops limit t r (suc i) l e b h = record {
  passed = λ j lt. passes p low stops limit t (suc i) j l e b h.least lt;
  reached = some_of (StopsForward p stops limit t.now (suc i)) _ r (first_at p low stops limit t i l) h.is_stop h.is_first ∙ plain_stop p stops limit t.now i r h.is_stop;
}

continues_to : {A : Type 0} (p : Program A) (low : ℕ) (stops : List Numbered) (limit : ℕ) (t : Timeline) (r : Reason) (k : ℕ) → AreListed low stops
    → Continues p stops limit t r k → IsLeast (stop_on p stops t) limit k r
continues_to p low stops limit t r k l (inl (e, (f, g))) = rw f (rw g (end_here p stops limit t e))
continues_to p low stops limit t r k l (inr (inl (e, z, (f, g)))) = rw f (rw g (limit_here p stops limit t e z))
continues_to p low stops limit t r k l (inr (inr (e, b, h))) = target_to p low stops limit t r k l e b h

-- ---- both

pub on-target : {A : Type 0} (p : Program A) (stops : List Numbered) (limit : ℕ) (t u : Timeline) (r : Reason) (k : ℕ) → AreListed 0 stops → stopping r ≡ Some r
    → RunsOn p stops limit t r k u → Continues p stops limit t r k × (u ≡ moved p k t)
on-target p stops limit t u r k l plain h = (runs_to p 0 stops limit t r k l h.least plain, h.moves)

pub target-on : {A : Type 0} (p : Program A) (stops : List Numbered) (limit : ℕ) (t : Timeline) (r : Reason) (k : ℕ) → AreListed 0 stops
    → Continues p stops limit t r k → RunsOn p stops limit t r k (moved p k t)
target-on p stops limit t r k l h = record { moves = refl; least = continues_to p 0 stops limit t r k l h }
