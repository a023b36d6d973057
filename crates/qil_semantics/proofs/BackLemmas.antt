-- Back: the least number of moves with a reason to stop leads to the greatest position that is a stop.
use Rattle.std.proofs.Common.{◌≡◌, refl, sym, ap, ◌∙◌, subst, inl, inr, ◌⊎◌, ℕ, zero, suc, ◌+◌, ◌-◌, ◌≤◌, ◌<◌, Bool, true, false, cond, List, ◌∷◌, length, get_or, Option, Some, None, arith}
use Rattle.std.proofs.lemmas.Bool.{cases_lt, le-ltb}
use Rattle.std.proofs.lemmas.List.{get_or-reverse, length-reverse}
use Rattle.std.proofs.lemmas.Option.{slice_get-get_or}
use Rattle.std.proofs.lemmas.Bool.{ne_eqb}
use Rattle.std.specs.Prelude.{◌==◌, nat_lt, reverse, slice_get}
use Rattle.std.specs.Option.{option_or}
use Rattle.qil_semantics.specs.State.{State}
use Rattle.qil_semantics.specs.Timeline.{Timeline, position, oldest, state_at, gone}
use Rattle.qil_semantics.specs.Stops.{Numbered, AreListed, stopped}
use Rattle.qil_semantics.specs.Runs.{if_holds, within, bottom, stop_back, stopping, IsLeast, RunsBack}
use Rattle.qil_semantics.specs.Targets.{rank, Halts, StopsBack, BackTarget, Comes, Reverses}
use Rattle.qil_semantics.specs.declared.reason.Reason.{Reason}
use Rattle.qil_semantics.specs.declared.reason.Reason.TheVariants.{End, Watch, Break, Start, Oldest, Limit, Memory}
use Rattle.qil_semantics.proofs.FirstLemmas.{First, none_of, some_of, first_iff, first_or, first_holds}
use Rattle.qil_semantics.proofs.HoldLemmas.{first_stopped}
use Rattle.qil_semantics.proofs.OnLemmas.{equal, is_equal, unequal, from_some, halts_rank, Limits}

-- ---- the state so many moves back

read_at : (xs : List State) (j : ℕ) (d : State) → j < length xs → slice_get (reverse xs) (length xs - 1 - j) ≡ Some (get_or xs j d)
read_at xs j d h =
    let l : length (reverse xs) ≡ length xs = length-reverse xs in
    let within : length xs - 1 - j < length (reverse xs) = omega (arith, l, h) in
    let at : length xs - 1 - (length xs - 1 - j) ≡ j = omega (arith, h) in
    slice_get-get_or (reverse xs) (length xs - 1 - j) d within ∙ ap Some (get_or-reverse xs (length xs - 1 - j) d (omega (arith, h)) ∙ ap (λ k. get_or xs k d) at)

-- a position as a number of moves back
pub state-gone : (t : Timeline) (k j : ℕ) → k ≤ length t.past → j + k ≡ position t → state_at t j ≡ Some (gone k t).now
unfolding gone
state-gone t k j h e =
    let kept : nat_lt j (oldest t) ≡ false = le-ltb j (oldest t) (omega (arith, h, e)) in
    let at : j - oldest t ≡ length (t.now ∷ t.past) - 1 - k = omega (arith, h, e) in
    rw kept (rw at (read_at (t.now ∷ t.past) k t.now (omega (arith, h))))

-- ---- the reasons after a move

abbrev pub Bottoms : Timeline → ℕ → Reason → Type 0
Bottoms t k q = (q ≡ cond (oldest t == 0) Start Oldest) × ((length t.past == k) ≡ true)

bottom_rank : (b : Bool) (q : Reason) → q ≡ cond b Start Oldest → (2 < rank q) × (rank q ≤ 4)
bottom_rank true q e = rw e (omega arith, omega arith)
bottom_rank false q e = rw e (omega arith, omega arith)

abbrev pub BackReasons : List Numbered → ℕ → Timeline → ℕ → State → State → Reason → Type 0
BackReasons stops limit t k a b q = (Halts stops a b q ⊎ Bottoms t k q) ⊎ Limits limit k q

low_back : (stops : List Numbered) (t : Timeline) (k : ℕ) (a b : State) (q : Reason) → Halts stops a b q ⊎ Bottoms t k q → rank q ≤ 4
low_back stops t k a b q (inl h) = let l = (halts_rank stops a b q h).1 in omega (arith, l)
low_back stops t k a b q (inr h) = (bottom_rank (oldest t == 0) q h.0).1

pub first_back : (low : ℕ) (stops : List Numbered) (limit : ℕ) (t : Timeline) (k : ℕ) (a b : State) → AreListed low stops
    → First (BackReasons stops limit t k a b) (within limit k (option_or (stopped stops a b) (bottom t k)))
first_back low stops limit t k a b l =
    first_or (λ q. Halts stops a b q ⊎ Bottoms t k q) (Limits limit k) 4 (option_or (stopped stops a b) (bottom t k)) (if_holds (k == limit) Limit)
    (λ q h. low_back stops t k a b q h) (λ q h. rw h.0 (omega arith))
    (first_or (Halts stops a b) (Bottoms t k) 2 (stopped stops a b) (bottom t k)
    (λ q h. (halts_rank stops a b q h).1) (λ q h. (bottom_rank (oldest t == 0) q h.0).0)
    (first_stopped low stops a b l) (first_holds (length t.past == k) (cond (oldest t == 0) Start Oldest)))
    (first_holds (k == limit) Limit)

-- k + 1 moves back lead to position j
abbrev IsBackTo : Timeline → ℕ → ℕ → Type 0
IsBackTo t k j = (suc k ≤ length t.past) × (j + suc k ≡ position t)

halts_back : (stops : List Numbered) (limit : ℕ) (t : Timeline) (k j : ℕ) (q : Reason) → IsBackTo t k j → Halts stops (gone k t).now (gone (suc k) t).now q → StopsBack stops limit t j q
halts_back stops limit t k j (Watch n) at h =
    let few = at.0 in let e = at.1 in
    ((gone k t).now, (gone (suc k) t).now, state-gone t k (suc j) (omega (arith, few)) (omega (arith, e)), state-gone t (suc k) j few e, h)
halts_back stops limit t k j (Break n) at h =
    let few = at.0 in let e = at.1 in
    ((gone k t).now, (gone (suc k) t).now, state-gone t k (suc j) (omega (arith, few)) (omega (arith, e)), state-gone t (suc k) j few e, h)
halts_back stops limit t k j End at h = absurd h
halts_back stops limit t k j Start at h = absurd h
halts_back stops limit t k j Oldest at h = absurd h
halts_back stops limit t k j Limit at h = absurd h
halts_back stops limit t k j Memory at h = absurd h

bottom_back : (stops : List Numbered) (limit : ℕ) (t : Timeline) (k j : ℕ) (q : Reason) (b : Bool) → (oldest t == 0) ≡ b → IsBackTo t k j → length t.past ≡ suc k → q ≡ cond b Start Oldest
    → StopsBack stops limit t j q
bottom_back stops limit t k j q true z at e f = let g = equal (oldest t) 0 z in let at_j = at.1 in rw f (omega (arith, g, e, at_j))
bottom_back stops limit t k j q false z at e f =
    let at_j = at.1 in
    let above : 0 < oldest t = elim (cases_lt 0 (oldest t)) [ inl l ↦ l | inr g ↦ (let m = is_equal (oldest t) 0 (omega (arith, g)) in absurd (cc)) ] in
    rw f (omega (arith, e, at_j), omega (arith, e, at_j, above))

back-to : (stops : List Numbered) (limit : ℕ) (t : Timeline) (k j : ℕ) (q : Reason) → IsBackTo t k j → BackReasons stops limit t (suc k) (gone k t).now (gone (suc k) t).now q → StopsBack stops limit t j q
back-to stops limit t k j q at (inl (inl h)) = halts_back stops limit t k j q at h
back-to stops limit t k j q at (inl (inr h)) = bottom_back stops limit t k j q (oldest t == 0) refl at (equal (length t.past) (suc k) h.1) h.0
back-to stops limit t k j q at (inr h) = let e = equal (suc k) limit h.1 in let at_j = at.1 in rw h.0 (omega (arith, e, at_j))

-- the two states of a stop are those that the moves lead to
both_gone : (stops : List Numbered) (t : Timeline) (k j : ℕ) (q : Reason) (later s : State) → IsBackTo t k j → state_at t (suc j) ≡ Some later → state_at t j ≡ Some s
    → Halts stops later s q → Halts stops (gone k t).now (gone (suc k) t).now q
both_gone stops t k j q later s at e f h =
    let few = at.0 in let at_j = at.1 in
    let a : later ≡ (gone k t).now = from_some later (gone k t).now (sym e ∙ state-gone t k (suc j) (omega (arith, few)) (omega (arith, at_j))) in
    let b : s ≡ (gone (suc k) t).now = from_some s (gone (suc k) t).now (sym f ∙ state-gone t (suc k) j few at_j) in
    subst (λ (x : State). Halts stops x (gone (suc k) t).now q) a (subst (λ (y : State). Halts stops later y q) b h)

back-from : (stops : List Numbered) (limit : ℕ) (t : Timeline) (k j : ℕ) (q : Reason) → IsBackTo t k j → StopsBack stops limit t j q → BackReasons stops limit t (suc k) (gone k t).now (gone (suc k) t).now q
back-from stops limit t k j (Watch n) at h = inl (inl (both_gone stops t k j (Watch n) h.0 h.1 at h.2 h.3 h.4))
back-from stops limit t k j (Break n) at h = inl (inl (both_gone stops t k j (Break n) h.0 h.1 at h.2 h.3 h.4))
back-from stops limit t k j End at h = absurd h.4
back-from stops limit t k j Memory at h = absurd h.4
back-from stops limit t k j Start at h =
    let few = at.0 in let at_j = at.1 in
    let none : oldest t ≡ 0 = omega (arith, few, at_j, h) in
    inl (inr (ap (λ b. cond b Start Oldest) (sym (is_equal (oldest t) 0 none)), is_equal (length t.past) (suc k) (omega (arith, few, at_j, h))))
back-from stops limit t k j Oldest at h =
    let at_j = at.1 in let here = h.0 in let above = h.1 in
    let some : (oldest t == 0) ≡ false = ne_eqb (oldest t) 0 (λ e. omega (arith, e, here, above)) in
    inl (inr (ap (λ b. cond b Start Oldest) (sym some), is_equal (length t.past) (suc k) (omega (arith, at_j, here))))
back-from stops limit t k j Limit at h = let at_j = at.1 in inr (refl, is_equal (suc k) limit (omega (arith, at_j, h)))

pub first_at : (low : ℕ) (stops : List Numbered) (limit : ℕ) (t : Timeline) (k j : ℕ) → AreListed low stops → IsBackTo t k j
    → First (StopsBack stops limit t j) (within limit (suc k) (stop_back stops t (suc k)))
unfolding stop_back
first_at low stops limit t k j l at =
    first_iff (BackReasons stops limit t (suc k) (gone k t).now (gone (suc k) t).now) (StopsBack stops limit t j)
    (within limit (suc k) (option_or (stopped stops (gone k t).now (gone (suc k) t).now) (bottom t (suc k))))
    (λ q h. back-to stops limit t k j q at h) (λ q h. back-from stops limit t k j q at h)
    (first_back low stops limit t (suc k) (gone k t).now (gone (suc k) t).now l)

-- ---- without a move

abbrev pub Stays : Timeline → ℕ → Reason → Type 0
Stays t limit r = ((position t ≡ 0) × Comes r 0 Start 0) ⊎ (((position t ≡ oldest t) × (0 < position t) × Comes r 0 Oldest 0) ⊎ ((oldest t < position t) × (limit ≡ 0) × Comes r 0 Limit 0))

at_bottom : (t : Timeline) (limit : ℕ) (r : Reason) (b : Bool) → (oldest t == 0) ≡ b → length t.past ≡ 0 → cond b Start Oldest ≡ r → Stays t limit r
at_bottom t limit r true z e f = let g = equal (oldest t) 0 z in inl (omega (arith, g, e), (sym f, refl))
at_bottom t limit r false z e f =
    let above : 0 < oldest t = elim (cases_lt 0 (oldest t)) [ inl l ↦ l | inr g ↦ (let m = is_equal (oldest t) 0 (omega (arith, g)) in absurd (cc)) ] in
    inr (inl (omega (arith, e), omega (arith, above), (sym f, refl)))

above_zero : (n : ℕ) → (n == 0) ≡ false → 0 < n
above_zero n e = elim (cases_lt 0 n) [ inl l ↦ l | inr g ↦ (let m = is_equal n 0 (omega (arith, g)) in absurd (cc)) ]

pub zero_case : (t : Timeline) (limit : ℕ) (r : Reason) (b c : Bool) → (length t.past == 0) ≡ b → (0 == limit) ≡ c
    → option_or (if_holds b (cond (oldest t == 0) Start Oldest)) (if_holds c Limit) ≡ Some r → Stays t limit r
zero_case t limit r true c e f h = at_bottom t limit r (oldest t == 0) refl (equal (length t.past) 0 e) (from_some (cond (oldest t == 0) Start Oldest) r h)
zero_case t limit r false true e f h =
    let above = above_zero (length t.past) e in let g = equal 0 limit f in
    inr (inr (omega (arith, above), sym g, (sym (from_some Limit r h), refl)))
zero_case t limit r false false e f h = absurd (cc)

passed_zero : (t : Timeline) (limit : ℕ) (b c : Bool) → (length t.past == 0) ≡ b → (0 == limit) ≡ c
    → option_or (if_holds b (cond (oldest t == 0) Start Oldest)) (if_holds c Limit) ≡ None → (0 < length t.past) × (0 < limit)
passed_zero t limit true c e f h = absurd (cc)
passed_zero t limit false true e f h = absurd (cc)
passed_zero t limit false false e f h = (above_zero (length t.past) e, elim (cases_lt 0 limit) [ inl l ↦ l | inr g ↦ (let m = is_equal 0 limit (omega (arith, g)) in absurd (cc)) ])

stops_on : (o : Option Reason) (r : Reason) (b c : Bool) → b ≡ true → option_or (option_or o (if_holds b r)) (if_holds c Limit) ≡ None → ⊥
stops_on (Some q) r b c e h = absurd (cc)
stops_on None r true c e h = absurd (cc)
stops_on None r false c e h = absurd (cc)

-- the oldest state is a stop
bottom_stops : (stops : List Numbered) (limit : ℕ) (t : Timeline) (k : ℕ) → length t.past ≡ suc k → within limit (suc k) (stop_back stops t (suc k)) ≡ None → ⊥
unfolding stop_back
bottom_stops stops limit t k e h =
    let b : (length t.past == suc k) ≡ true = is_equal (length t.past) (suc k) e in
    stops_on (stopped stops (gone k t).now (gone (suc k) t).now) (cond (oldest t == 0) Start Oldest) (length t.past == suc k) (suc k == limit) b h

-- ---- from runs to targets

-- k moves back pass no stop, so there are as many to make
enough : (stops : List Numbered) (limit : ℕ) (t : Timeline) (k n : ℕ) → length t.past ≡ n → 0 < n → ((j : ℕ) → j < k → within limit j (stop_back stops t j) ≡ None) → k ≤ n
enough stops limit t k zero e b passed = absurd (omega (arith, b))
enough stops limit t k (suc m) e b passed = elim (cases_lt (suc m) k) [ inl l ↦ absurd (bottom_stops stops limit t m e (passed (suc m) l)) | inr g ↦ omega (arith, g) ]

not_nearer : (low : ℕ) (stops : List Numbered) (limit : ℕ) (t : Timeline) (k j : ℕ) (q : Reason) → AreListed low stops → IsBackTo t k j
    → within limit (suc k) (stop_back stops t (suc k)) ≡ None → StopsBack stops limit t j q → ⊥
not_nearer low stops limit t k j q l at e h = subst (λ o. First (StopsBack stops limit t j) o) e (first_at low stops limit t k j l at) q h

stays_reverses : (stops : List Numbered) (limit : ℕ) (t : Timeline) (r : Reason) → Stays t limit r → Reverses stops limit t r 0
stays_reverses stops limit t r (inl h) = inl h
stays_reverses stops limit t r (inr (inl h)) = inr (inl h)
stays_reverses stops limit t r (inr (inr h)) = inr (inr (inl h))

target_of : (low : ℕ) (stops : List Numbered) (limit : ℕ) (t : Timeline) (r : Reason) (i j : ℕ) → AreListed low stops → IsBackTo t i j
    → IsLeast (stop_back stops t) limit (suc i) r → stopping r ≡ Some r → BackTarget stops limit t j r
target_of low stops limit t r i j l at h plain =
    let few = at.0 in let at_j = at.1 in
    let here : First (StopsBack stops limit t j) (Some r) = subst (λ o. First (StopsBack stops limit t j) o) (h.reached ∙ plain) (first_at low stops limit t i j l at) in
    record {
      is_before = omega (arith, at_j);
      is_stop = here.0;
      greatest = λ a q above below s.
          not_nearer low stops limit t (position t - a - 1) a q l (omega (arith, few, at_j, above, below), omega (arith, below))
          (h.passed (suc (position t - a - 1)) (omega (arith, at_j, above, below))) s;
      is_first = here.1;
    }

runs_to : (low : ℕ) (stops : List Numbered) (limit : ℕ) (t : Timeline) (r : Reason) (k : ℕ) → AreListed low stops
    → IsLeast (stop_back stops t) limit k r → stopping r ≡ Some r → Reverses stops limit t r k
unfolding stop_back
runs_to low stops limit t r zero l h plain = stays_reverses stops limit t r (zero_case t limit r (length t.past == 0) (0 == limit) refl refl (h.reached ∙ plain))
runs_to low stops limit t r (suc i) l h plain =
    let (some, limited) = passed_zero t limit (length t.past == 0) (0 == limit) refl refl (h.passed 0 (omega arith)) in
    let few : suc i ≤ length t.past = enough stops limit t (suc i) (length t.past) refl some h.passed in
    inr (inr (inr (omega (arith, some), limited, position t - suc i, target_of low stops limit t r i (position t - suc i) l (few, omega (arith, few)) h plain, omega (arith, few))))

-- ---- from targets to runs

pub start_here : (stops : List Numbered) (limit : ℕ) (t : Timeline) → position t ≡ 0 → IsLeast (stop_back stops t) limit 0 Start
unfolding stop_back
start_here stops limit t e = record {
  passed = λ j lt. absurd (omega (arith, lt));
  reached = rw (is_equal (length t.past) 0 (omega (arith, e))) (rw (is_equal (oldest t) 0 (omega (arith, e))) refl);
}

pub oldest_here : (stops : List Numbered) (limit : ℕ) (t : Timeline) → position t ≡ oldest t → 0 < position t → IsLeast (stop_back stops t) limit 0 Oldest
unfolding stop_back
oldest_here stops limit t e b = record {
  passed = λ j lt. absurd (omega (arith, lt));
  reached = rw (is_equal (length t.past) 0 (omega (arith, e))) (rw (ne_eqb (oldest t) 0 (λ z. omega (arith, z, e, b))) refl);
}

limit_here : (stops : List Numbered) (limit : ℕ) (t : Timeline) → oldest t < position t → limit ≡ 0 → IsLeast (stop_back stops t) limit 0 Limit
unfolding stop_back
limit_here stops limit t b z = record {
  passed = λ j lt. absurd (omega (arith, lt));
  reached = rw (ne_eqb (length t.past) 0 (λ e. omega (arith, e, b))) (rw z refl);
}

pub plain_stop : (stops : List Numbered) (limit : ℕ) (t : Timeline) (j : ℕ) (r : Reason) → StopsBack stops limit t j r → Some r ≡ stopping r
plain_stop stops limit t j End h = refl
plain_stop stops limit t j (Watch n) h = refl
plain_stop stops limit t j (Break n) h = refl
plain_stop stops limit t j Start h = refl
plain_stop stops limit t j Oldest h = refl
plain_stop stops limit t j Limit h = refl
plain_stop stops limit t j Memory h = absurd h.4

passes : (low : ℕ) (stops : List Numbered) (limit : ℕ) (t : Timeline) (r : Reason) (i j n : ℕ) → AreListed low stops → IsBackTo t i j → 0 < limit → BackTarget stops limit t j r → n < suc i
    → within limit n (stop_back stops t n) ≡ None
unfolding stop_back
passes low stops limit t r i j zero l at b h lt =
    let few = at.0 in
    rw (ne_eqb (length t.past) 0 (λ e. omega (arith, few, e))) (rw (unequal 0 limit b) refl)
passes low stops limit t r i j (suc n) l at b h lt =
    let few = at.0 in let at_j = at.1 in
    none_of (StopsBack stops limit t (position t - suc n)) _ (first_at low stops limit t n (position t - suc n) l (omega (arith, few, lt), omega (arith, few, lt)))
    (λ q s. h.greatest (position t - suc n) q (omega (arith, few, at_j, lt)) (omega (arith, few, lt)) s)

-- the target is a state that is kept, for the oldest is a stop
kept_target : (stops : List Numbered) (limit : ℕ) (t : Timeline) (r : Reason) (j : ℕ) → oldest t < position t → BackTarget stops limit t j r → oldest t ≤ j
kept_target stops limit t r j b h = elim (cases_lt j (oldest t)) [ inl l ↦ absurd (h.greatest (oldest t) Oldest l b (refl, omega (arith, l))) | inr g ↦ omega (arith, g) ]

target_to : (low : ℕ) (stops : List Numbered) (limit : ℕ) (t : Timeline) (r : Reason) (k j : ℕ) → AreListed low stops → oldest t < position t → 0 < limit
    → BackTarget stops limit t j r → k + j ≡ position t → IsLeast (stop_back stops t) limit k r
target_to low stops limit t r zero j l some b h e = let before = h.is_before in absurd (omega (arith, before, e))
target_to low stops limit t r (suc i) j l some b h e =
    let kept : oldest t ≤ j = kept_target stops limit t r j some h in
    let few : suc i ≤ length t.past = omega (arith, kept, e) in
    let at_j : j + suc i ≡ position t = omega (arith, e) in
    record {
      passed = λ n lt. passes low stops limit t r i j n l (few, at_j) b h lt;
      reached = some_of (StopsBack stops limit t j) _ r (first_at low stops limit t i j l (few, at_j)) h.is_stop h.is_first ∙ plain_stop stops limit t j r h.is_stop;
    }

reverses_to : (low : ℕ) (stops : List Numbered) (limit : ℕ) (t : Timeline) (r : Reason) (k : ℕ) → AreListed low stops → Reverses stops limit t r k → IsLeast (stop_back stops t) limit k r
reverses_to low stops limit t r k l (inl (e, (f, g))) = rw f (rw g (start_here stops limit t e))
reverses_to low stops limit t r k l (inr (inl (e, b, (f, g)))) = rw f (rw g (oldest_here stops limit t e b))
reverses_to low stops limit t r k l (inr (inr (inl (b, z, (f, g))))) = rw f (rw g (limit_here stops limit t b z))
reverses_to low stops limit t r k l (inr (inr (inr (some, b, j, h, e)))) = target_to low stops limit t r k j l some b h e

reverses_plain : (stops : List Numbered) (limit : ℕ) (t : Timeline) (r : Reason) (k : ℕ) → Reverses stops limit t r k → stopping r ≡ Some r
reverses_plain stops limit t r k (inl (e, (f, g))) = rw f refl
reverses_plain stops limit t r k (inr (inl (e, b, (f, g)))) = rw f refl
reverses_plain stops limit t r k (inr (inr (inl (b, z, (f, g))))) = rw f refl
reverses_plain stops limit t r k (inr (inr (inr (some, b, j, h, e)))) = sym (plain_stop stops limit t j r h.is_stop)

-- ---- both

pub back-target : (stops : List Numbered) (limit : ℕ) (t u : Timeline) (r : Reason) (k : ℕ) → AreListed 0 stops → RunsBack stops limit t r k u → Reverses stops limit t r k × (u ≡ gone k t)
back-target stops limit t u r k l h = (runs_to 0 stops limit t r k l h.least h.no_memory, h.moves)

pub target-back : (stops : List Numbered) (limit : ℕ) (t : Timeline) (r : Reason) (k : ℕ) → AreListed 0 stops → Reverses stops limit t r k → RunsBack stops limit t r k (gone k t)
target-back stops limit t r k l h = record { moves = refl; no_memory = reverses_plain stops limit t r k h; least = reverses_to 0 stops limit t r k l h }
