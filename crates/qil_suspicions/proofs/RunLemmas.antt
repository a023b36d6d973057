-- Steps of a run one after the other, and whether it is over.
use Rattle.std.proofs.Common.{◌≡◌, ◌⊎◌, ℕ, zero, suc, ◌+◌, ◌-◌, ◌<◌, ◌≤◌, Bool, true, false, List, [], length, refl, sym, ◌∙◌, ap, arith, inl, inr}
use Rattle.std.specs.Prelude.{nat_lt}
use Rattle.std.proofs.lemmas.Bool.{true≢false}
use Rattle.std.proofs.lemmas.Bool.Decides.{nat_tests}
use Rattle.qil_tree.specs.declared.tree.Program.{Program}
use Rattle.qil_semantics.specs.State.{State, is_final}
use Rattle.qil_semantics.specs.Step.{step_of}
use Rattle.qil_semantics.specs.Targets.{after}

-- some steps behind others
after_more : {A : Type 0} (p : Program A) (s : State) (m r : ℕ) → after p (after p s m) r ≡ after p s (m + r)
after_more p s m zero = let same : m ≡ m + 0 = omega arith in ap (after p s) same
after_more p s m (suc r) = let next : suc (m + r) ≡ m + suc r = omega arith in ap (step_of p) (after_more p s m r) ∙ ap (after p s) next

pub ran_on : {A : Type 0} (p q : Program A) (s now new : State) (m n : ℕ) → q ≡ p → m ≤ n → now ≡ after p s m → new ≡ after q now (n - m) → new ≡ after p s n
ran_on p q s now new m n same least before is =
    let all : m + (n - m) ≡ n = omega (arith, least) in
    is ∙ (λ path. after (same path) (before path) (n - m)) ∙ after_more p s m (n - m) ∙ ap (after p s) all

-- behind a move there are as many moves as rounds, or the run is over
pub moved_on : (now new : State) (m n i : ℕ) → (m ≡ i) ⊎ (is_final now.status ≡ true) → (n ≡ m + 1) ⊎ (is_final new.status ≡ true)
    → (m < n → is_final now.status ≡ false) → (n ≡ i + 1) ⊎ (is_final new.status ≡ true)
moved_on now new m n i so_far (inr over) going = inr over
moved_on now new m n i (inl same) (inl one) going = inl (omega (arith, same, one))
moved_on now new m n i (inr over) (inl one) going = absurd (true≢false (sym over ∙ going (omega (arith, one))))

-- a move of a run that goes on is one
pub moved_one : {A : Type 0} (p : Program A) (now new : State) (m n : ℕ) → m ≤ n → n ≤ m + 1 → new ≡ after p now (n - m) → (n ≡ m + 1) ⊎ (is_final new.status ≡ true) → is_final now.status ≡ false → n ≡ m + 1
moved_one p now new m n least few is (inl one) goes = one
moved_one p now new m n least few is (inr over) goes = by (nat_lt m n) refl
  where
    by : (t : Bool) → nat_lt m n ≡ t → n ≡ m + 1
    by true e = let more : m < n = grind (arith, nat_tests, e) in omega (arith, more, few)
    by false e =
        let same : n - m ≡ 0 = (let past : n ≤ m = grind (arith, nat_tests, e) in omega (arith, past)) in
        absurd (true≢false (sym over ∙ ap (λ (s : State). is_final s.status) (is ∙ ap (after p now) same) ∙ goes))

pub no_item : {X Y : Type 0} (xs : List X) (i : ℕ) → i < length xs → xs ≡ [] → Y
no_item xs i within none = let count : length xs ≡ 0 = ap length none in absurd (omega (arith, within, count))
