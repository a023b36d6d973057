-- Runs forward, part after part.
use Rattle.std.proofs.Common.{◌≡◌, refl, sym, ap, ◌∙◌, subst, ℕ, zero, suc, ◌+◌, ◌-◌, ◌<◌, ◌≤◌, Bool, true, false, cond, [], Some, None, ◌⊎◌, inl, inr, arith}
use Rattle.std.proofs.lemmas.Bool.{cases_lt}
use Rattle.std.specs.Option.{option_or}
use Rattle.qil_tree.specs.declared.tree.Program.{Program}
use Rattle.qil_semantics.specs.Timeline.{Timeline, forward, at_end, moved}
use Rattle.qil_semantics.specs.Moves.{forward_by}
use Rattle.qil_semantics.specs.Runs.{if_holds, stop_on, stopping, RunsOn}
use Rattle.qil_semantics.specs.declared.reason.Reason.{Reason}
use Rattle.qil_semantics.specs.declared.reason.Reason.TheVariants.{End, Limit, Memory}
use Rattle.qil_stops.proofs.OnWay.{IsOnWay, none-stopped, on-last, on-end, or_none}
use Rattle.qil_stops.proofs.Walks.{IsWalked, walked-all}

-- ---- so many moves and then so many more

pub moved-append : {A : Type 0} (p : Program A) (a b : ℕ) (t : Timeline) → moved p (a + b) t ≡ moved p b (moved p a t)
unfolding moved
moved-append p a zero t = let e : a + 0 ≡ a = omega arith in ap (λ n. moved p n t) e
moved-append p a (suc b) t =
    let e : a + suc b ≡ suc (a + b) = omega arith in
    ap (λ n. moved p n t) e ∙ ap (λ (u : Timeline). forward p u) (moved-append p a b t)

-- one part more
pub walked-part : {A : Type 0} (p : Program A) (a b : ℕ) (t now new : Timeline) → IsWalked p t a now → new ≡ moved p b now → ((j : ℕ) → j < b → at_end (moved p j now) ≡ false) → IsWalked p t (a + b) new
walked-part p a b t now new way more runs = record {
  moves = more ∙ ap (moved p b) way.moves ∙ sym (moved-append p a b t);
  runs = λ j lt. elim (cases_lt j a) [
    | inl below ↦ way.runs j below
    | inr ge ↦ (let e : a + (j - a) ≡ j = omega (arith, ge) in
        ap (λ i. at_end (moved p i t)) (sym e) ∙ ap at_end (moved-append p a (j - a) t) ∙ ap (λ (u : Timeline). at_end (moved p (j - a) u)) (sym way.moves) ∙ runs (j - a) (omega (arith, lt, ge)))
  ];
}

pub walked-of : {A : Type 0} (p : Program A) (k : ℕ) (t new : Timeline) → new ≡ moved p k t → ((j : ℕ) → j < k → at_end (moved p j t) ≡ false) → IsWalked p t k new
walked-of p k t new moves runs = record { moves = moves; runs = runs }

-- ---- up to so many moves

pub forward-all : {A : Type 0} (p : Program A) (n k : ℕ) (t new : Timeline) → new ≡ moved p k t → ((j : ℕ) → j < k → at_end (moved p j t) ≡ false) → k ≤ n → (k ≡ n) ⊎ (at_end new ≡ true) → new ≡ forward_by p n t
forward-all p n k t new moves runs le (inl all) = walked-all p n k t new new (walked-of p k t new moves runs) le refl (λ lt. absurd (omega (arith, all, lt)))
forward-all p n k t new moves runs le (inr over) = walked-all p n k t new new (walked-of p k t new moves runs) le refl (λ lt. over)

-- ---- without stops

unwatched : {A : Type 0} (p : Program A) (t : Timeline) (k : ℕ) → stop_on p [] t k ≡ if_holds (at_end (moved p k t)) End
unfolding stop_on moved
unwatched p t zero = refl
unwatched p t (suc k) =
    ap (λ o. option_or (if_holds (at_end (moved p (suc k) t)) End) o) (sym (none-stopped (moved p k t).now (moved p (suc k) t).now)) ∙ or_none (if_holds (at_end (moved p (suc k) t)) End)

pub way-unwatched : {A : Type 0} (p : Program A) (t now : Timeline) (k : ℕ) → now ≡ moved p k t → ((j : ℕ) → j < k → at_end (moved p j t) ≡ false) → IsOnWay p [] t k now
way-unwatched p t now k moves runs = record {
  moves = moves;
  passed = λ j lt. unwatched p t j ∙ ap (λ b. if_holds b End) (runs j lt);
  here = unwatched p t k ∙ ap (λ (u : Timeline). if_holds (at_end u) End) (sym moves);
}

-- to the limit or to the end
pub run-unwatched : {A : Type 0} (p : Program A) (limit k : ℕ) (t now : Timeline) → now ≡ moved p k t → ((j : ℕ) → j < k → at_end (moved p j t) ≡ false) → k ≤ limit → (k ≡ limit) ⊎ (at_end now ≡ true)
    → RunsOn p [] limit t (cond (at_end now) End Limit) k now
run-unwatched {A} p limit k t now moves runs le (inl all) =
    subst (λ i. RunsOn p [] limit t (cond (at_end now) End Limit) i now) (sym all) (on-last p [] limit k t now (at_end now) (way-unwatched p t now k moves runs) refl all)
run-unwatched {A} p limit k t now moves runs le (inr over) =
    subst (λ b. RunsOn p [] limit t (cond b End Limit) k now) (sym over) (on-end p [] limit k t now now (way-unwatched p t now k moves runs) over refl le)

-- ---- one move

pub no-step : {A : Type 0} (p : Program A) (r : ℕ) (t new : Timeline) → r ≡ 0 → new ≡ moved p r t → new ≡ t
unfolding moved
no-step p r t new e moves = moves ∙ ap (λ n. moved p n t) e

pub none-moved : {A : Type 0} (p : Program A) (t : Timeline) → t ≡ moved p 0 t
unfolding moved
none-moved p t = refl

-- ---- what a machine says by its own program

pub walked-by : {A : Type 0} (q p : Program A) (a b : ℕ) (t now new : Timeline) → q ≡ p → IsWalked p t a now → new ≡ moved q b now → ((j : ℕ) → j < b → at_end (moved q j now) ≡ false) → IsWalked p t (a + b) new
walked-by {A} q p a b t now new e way more runs =
    walked-part p a b t now new way (subst (λ (r : Program A). new ≡ moved r b now) e more) (λ j lt. subst (λ (r : Program A). at_end (moved r j now) ≡ false) e (runs j lt))

-- ---- no reason is out of memory

ends_otherwise : End ≡ Memory → ⊥
ends_otherwise e = cc

halts_otherwise : None ≡ Some Memory → ⊥
halts_otherwise e = cc

pub spared-by : (b : Bool) (r other : Reason) → r ≡ cond b End other → stopping other ≡ Some other → r ≡ Memory → ⊥
spared-by true r other is plain e = let both : End ≡ Memory = sym is ∙ e in ends_otherwise both
spared-by false r other is plain e =
    let same : other ≡ Memory = sym is ∙ e in
    let both : None ≡ Some Memory = subst (λ (x : Reason). stopping x ≡ Some x) same plain in
    halts_otherwise both
