-- The least number of moves that has a reason to stop is reached, and there is one always.
use Rattle.std.proofs.Common.{◌≡◌, refl, sym, ◌∙◌, subst, inl, inr, ◌⊎◌, ℕ, zero, suc, ◌<◌, Bool, true, false, cond, List, length, Option, Some, None, arith}
use Rattle.std.specs.Prelude.{◌==◌, is_some}
use Rattle.qil_tree.specs.declared.tree.Program.{Program}
use Rattle.qil_semantics.specs.State.{State}
use Rattle.qil_semantics.specs.Timeline.{Timeline, at_end, oldest, moved, gone}
use Rattle.qil_semantics.specs.Moves.{least}
use Rattle.qil_semantics.specs.Stops.{Numbered, AreListed}
use Rattle.qil_semantics.specs.Runs.{within, stop_on, stop_back, stopping, target, RunsOn, RunsBack}
use Rattle.qil_semantics.specs.Targets.{Comes, Halts, StopsForward}
use Rattle.qil_semantics.specs.declared.reason.Reason.{Reason}
use Rattle.qil_semantics.specs.declared.reason.Reason.TheVariants.{End, Watch, Break, Start, Oldest, Limit, Memory}
use Rattle.qil_semantics.proofs.FirstLemmas.{First}
use Rattle.qil_semantics.proofs.OnLemmas.{is_equal, zero_case, first_at, plain_stop}
use Rattle.qil_semantics.proofs.BackLemmas.{Stays, zero_case as zero_back, BackReasons, first_back}

-- ---- the least number at which a test holds

below_if : (test : ℕ → Bool) (n j : ℕ) (b : Bool) → test zero ≡ b → ((i : ℕ) → i < least (λ k. test (suc k)) n → test (suc i) ≡ false)
    → j < cond b zero (suc (least (λ k. test (suc k)) n)) → test j ≡ false
below_if test n j true e h lt = absurd (omega (arith, lt))
below_if test n zero false e h lt = e
below_if test n (suc j) false e h lt = h j (omega (arith, lt))

pub least-below : (test : ℕ → Bool) (n j : ℕ) → j < least test n → test j ≡ false
unfolding least
least-below test zero j lt = absurd (omega (arith, lt))
least-below test (suc n) j lt = below_if test n j (test zero) refl (λ i l. least-below (λ k. test (suc k)) n i l) lt

holds_if : (test : ℕ → Bool) (n : ℕ) (b : Bool) → test zero ≡ b → test (suc (least (λ k. test (suc k)) n)) ≡ true → test (cond b zero (suc (least (λ k. test (suc k)) n))) ≡ true
holds_if test n true e h = e
holds_if test n false e h = h

-- where the test holds at n, it holds at the least number
pub least-holds : (test : ℕ → Bool) (n : ℕ) → test n ≡ true → test (least test n) ≡ true
unfolding least
least-holds test zero e = e
least-holds test (suc n) e = holds_if test n (test zero) refl (least-holds (λ k. test (suc k)) n e)

-- ---- targets

none_if : (o : Option Reason) → is_some o ≡ false → o ≡ None
none_if None e = refl
none_if (Some r) e = absurd (cc)

some_if : (o : Option Reason) → is_some o ≡ true → (r : Reason) × (o ≡ Some r)
some_if None e = absurd (cc)
some_if (Some r) e = (r, refl)

at_limit : (limit : ℕ) (o : Option Reason) → is_some (within limit limit o) ≡ true
at_limit limit (Some r) = refl
at_limit limit None = rw (is_equal limit limit refl) refl

-- some reason is reported at the target, and none before it
pub target-reported : (stop : ℕ → Option Reason) (limit : ℕ) → (r : Reason) × (within limit (target stop limit) (stop (target stop limit)) ≡ Some r)
target-reported stop limit = some_if (within limit (target stop limit) (stop (target stop limit))) (least-holds (λ k. is_some (within limit k (stop k))) limit (at_limit limit (stop limit)))

pub target-passed : (stop : ℕ → Option Reason) (limit j : ℕ) → j < target stop limit → within limit j (stop j) ≡ None
target-passed stop limit j lt = none_if (within limit j (stop j)) (least-below (λ k. is_some (within limit k (stop k))) limit j lt)

plain_zero : (b : Bool) (limit : ℕ) (r : Reason) → ((b ≡ true) × Comes r 0 End 0) ⊎ ((b ≡ false) × (limit ≡ 0) × Comes r 0 Limit 0) → Some r ≡ stopping r
plain_zero b limit r (inl h) = rw h.1.0 refl
plain_zero b limit r (inr h) = rw h.2.0 refl

plain_on : {A : Type 0} (p : Program A) (stops : List Numbered) (limit : ℕ) (t : Timeline) (k : ℕ) (r : Reason) → AreListed 0 stops
    → within limit k (stop_on p stops t k) ≡ Some r → Some r ≡ stopping r
unfolding stop_on
plain_on p stops limit t zero r l e = plain_zero (at_end t) limit r (zero_case (at_end t) limit r e)
plain_on p stops limit t (suc i) r l e =
    let here : First (StopsForward p stops limit t.now (suc i)) (Some r) = subst (λ o. First (StopsForward p stops limit t.now (suc i)) o) e (first_at p 0 stops limit t i l) in
    plain_stop p stops limit t.now i r here.0

plain_halt : (stops : List Numbered) (a b : State) (r : Reason) → Halts stops a b r → Some r ≡ stopping r
plain_halt stops a b (Watch n) h = refl
plain_halt stops a b (Break n) h = refl
plain_halt stops a b End h = absurd h
plain_halt stops a b Start h = absurd h
plain_halt stops a b Oldest h = absurd h
plain_halt stops a b Limit h = absurd h
plain_halt stops a b Memory h = absurd h

plain_bottom : (b : Bool) (r : Reason) → r ≡ cond b Start Oldest → Some r ≡ stopping r
plain_bottom true r e = rw e refl
plain_bottom false r e = rw e refl

plain_reason : (stops : List Numbered) (limit : ℕ) (t : Timeline) (k : ℕ) (a b : State) (r : Reason) → BackReasons stops limit t k a b r → Some r ≡ stopping r
plain_reason stops limit t k a b r (inl (inl h)) = plain_halt stops a b r h
plain_reason stops limit t k a b r (inl (inr h)) = plain_bottom (oldest t == 0) r h.0
plain_reason stops limit t k a b r (inr h) = rw h.0 refl

plain_stay : (t : Timeline) (limit : ℕ) (r : Reason) → Stays t limit r → Some r ≡ stopping r
plain_stay t limit r (inl h) = rw h.1.0 refl
plain_stay t limit r (inr (inl h)) = rw h.2.0 refl
plain_stay t limit r (inr (inr h)) = rw h.2.0 refl

plain_back : (stops : List Numbered) (limit : ℕ) (t : Timeline) (k : ℕ) (r : Reason) → AreListed 0 stops → within limit k (stop_back stops t k) ≡ Some r → Some r ≡ stopping r
unfolding stop_back
plain_back stops limit t zero r l e = plain_stay t limit r (zero_back t limit r (length t.past == 0) (0 == limit) refl refl e)
plain_back stops limit t (suc i) r l e =
    let here : First (BackReasons stops limit t (suc i) (gone i t).now (gone (suc i) t).now) (Some r) =
    subst (λ o. First (BackReasons stops limit t (suc i) (gone i t).now (gone (suc i) t).now) o) e (first_back 0 stops limit t (suc i) (gone i t).now (gone (suc i) t).now l) in
    plain_reason stops limit t (suc i) (gone i t).now (gone (suc i) t).now r here.0

pub reaches_on : {A : Type 0} (p : Program A) (stops : List Numbered) (limit : ℕ) (t : Timeline) → AreListed 0 stops
    → (r : Reason) × (stopping r ≡ Some r) × RunsOn p stops limit t r (target (stop_on p stops t) limit) (moved p (target (stop_on p stops t) limit) t)
reaches_on p stops limit t l =
    let (r, reported) = target-reported (stop_on p stops t) limit in
    let plain : Some r ≡ stopping r = plain_on p stops limit t (target (stop_on p stops t) limit) r l reported in
    (r, sym plain, record { moves = refl; least = record { passed = λ j lt. target-passed (stop_on p stops t) limit j lt; reached = reported ∙ plain } })

pub reaches_back : (stops : List Numbered) (limit : ℕ) (t : Timeline) → AreListed 0 stops
    → (r : Reason) × RunsBack stops limit t r (target (stop_back stops t) limit) (gone (target (stop_back stops t) limit) t)
reaches_back stops limit t l =
    let (r, reported) = target-reported (stop_back stops t) limit in
    let plain : Some r ≡ stopping r = plain_back stops limit t (target (stop_back stops t) limit) r l reported in
    (r, record { moves = refl; no_memory = sym plain; least = record { passed = λ j lt. target-passed (stop_back stops t) limit j lt; reached = reported ∙ plain } })
