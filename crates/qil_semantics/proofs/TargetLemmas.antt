-- There is one target at most, forward and back; and where nothing moves.
use Rattle.std.proofs.Common.{◌≡◌, refl, sym, subst, inl, inr, ◌⊎◌, ℕ, ◌<◌, Bool, true, false, List}
use Rattle.std.specs.Prelude.{◌==◌, ◌↔◌, length}
use Rattle.qil_tree.specs.declared.tree.Program.{Program}
use Rattle.qil_semantics.specs.State.{State}
use Rattle.qil_semantics.specs.Timeline.{Timeline, at_end, position, oldest, moved, gone}
use Rattle.qil_semantics.specs.Stops.{Numbered}
use Rattle.qil_semantics.specs.Runs.{stop_on, stop_back, RunsOn, RunsBack}
use Rattle.qil_semantics.specs.Targets.{Comes, StopsForward, ForwardTarget, StopsBack, BackTarget}
use Rattle.qil_semantics.specs.declared.reason.Reason.{Reason}
use Rattle.qil_semantics.specs.declared.reason.Reason.TheVariants.{End, Start, Oldest, Limit}
use Rattle.qil_semantics.proofs.FirstLemmas.{level, same}
use Rattle.qil_semantics.proofs.OnLemmas.{zero_case, end_here}
use Rattle.qil_semantics.proofs.BackLemmas.{Stays, zero_case as zero_back, start_here, oldest_here}

pub one_forward : {A : Type 0} (p : Program A) (stops : List Numbered) (limit : ℕ) (s : State) (j i : ℕ) (r q : Reason)
    → ForwardTarget p stops limit s j r → ForwardTarget p stops limit s i q → (j ≡ i) × (r ≡ q)
one_forward p stops limit s j i r q t u =
    let e : j ≡ i = level j i (λ l. u.least j r l t.is_stop) (λ l. t.least i q l u.is_stop) in (
      e,
      same r q
          (λ b. u.is_first r b (subst (λ k. StopsForward p stops limit s k r) e t.is_stop))
          (λ b. t.is_first q b (subst (λ k. StopsForward p stops limit s k q) (sym e) u.is_stop)),
    )

pub one_back : (stops : List Numbered) (limit : ℕ) (t : Timeline) (j i : ℕ) (r q : Reason)
    → BackTarget stops limit t j r → BackTarget stops limit t i q → (j ≡ i) × (r ≡ q)
one_back stops limit t j i r q x y =
    let e : j ≡ i = level j i (λ l. x.greatest i q l y.is_before y.is_stop) (λ l. y.greatest j r l x.is_before x.is_stop) in (
      e,
      same r q
          (λ b. y.is_first r b (subst (λ k. StopsBack stops limit t k r) e x.is_stop))
          (λ b. x.is_first q b (subst (λ k. StopsBack stops limit t k q) (sym e) y.is_stop)),
    )

-- ---- without a move

end_only : (b : Bool) (limit : ℕ) → ((b ≡ true) × Comes End 0 End 0) ⊎ ((b ≡ false) × (limit ≡ 0) × Comes End 0 Limit 0) → b ≡ true
end_only b limit (inl h) = h.0
end_only b limit (inr h) = let e = h.2.0 in absurd (cc)

pub end-stays : {A : Type 0} (p : Program A) (stops : List Numbered) (limit : ℕ) (t u : Timeline) → RunsOn p stops limit t End 0 u ↔ ((at_end t ≡ true) × (u ≡ t))
unfolding stop_on moved
end-stays p stops limit t u = (
  λ h. (end_only (at_end t) limit (zero_case (at_end t) limit End h.least.reached), h.moves),
  λ h. record { moves = h.1; least = end_here p stops limit t h.0 },
)

start_only : (t : Timeline) (limit : ℕ) → Stays t limit Start → position t ≡ 0
start_only t limit (inl h) = h.0
start_only t limit (inr (inl h)) = let e = h.2.0 in absurd (cc)
start_only t limit (inr (inr h)) = let e = h.2.0 in absurd (cc)

pub start-stays : (stops : List Numbered) (limit : ℕ) (t u : Timeline) → RunsBack stops limit t Start 0 u ↔ ((position t ≡ 0) × (u ≡ t))
unfolding stop_back gone
start-stays stops limit t u = (
  λ h. (start_only t limit (zero_back t limit Start (length t.past == 0) (0 == limit) refl refl h.least.reached), h.moves),
  λ h. record { moves = h.1; no_memory = refl; least = start_here stops limit t h.0 },
)

oldest_only : (t : Timeline) (limit : ℕ) → Stays t limit Oldest → (position t ≡ oldest t) × (0 < position t)
oldest_only t limit (inl h) = let e = h.1.0 in absurd (cc)
oldest_only t limit (inr (inl h)) = (h.0, h.1)
oldest_only t limit (inr (inr h)) = let e = h.2.0 in absurd (cc)

pub oldest-stays : (stops : List Numbered) (limit : ℕ) (t u : Timeline) → RunsBack stops limit t Oldest 0 u ↔ ((position t ≡ oldest t) × (0 < position t) × (u ≡ t))
unfolding stop_back gone
oldest-stays stops limit t u = (
  λ h. (let o = oldest_only t limit (zero_back t limit Oldest (length t.past == 0) (0 == limit) refl refl h.least.reached) in (o.0, o.1, h.moves)),
  λ h. record { moves = h.2; no_memory = refl; least = oldest_here stops limit t h.0 h.1 },
)
