-- What holds of a move that was made holds where it is kept, and its error where it isn't.
use Rattle.std.proofs.Common.{◌≡◌, ap, subst, ℕ, ◌≤◌, Result, Ok, Err, OnOk, OnErr, IfOk, IfErr, arith}
use Rattle.qil_state.specs.State.{Whole}
use Rattle.qil_machine.specs.declared.error.StepError.{StepError}
use Rattle.qil_machine.specs.Moves.{Move, weight}
use Rattle.qil_machine.specs.Places.{Made, HasMade, IsPassedOn}
use Rattle.qil_machine.specs.Costs.{WeighsAtMost}

pub kept_does : {T : Type 0} (P : Type 0) (r : Result Move StepError) (s : Result T StepError) (kept : Move → Type 0) → IsPassedOn r s kept → OnOk r P → OnOk s P
kept_does P (Ok d) (Ok t) kept is h = h
kept_does P (Ok d) (Err e) kept is h = tt
kept_does P (Err e) (Ok t) kept is h = absurd is
kept_does P (Err e) (Err f) kept is h = tt

pub kept_made : {A T : Type 0} (m w : Whole A) (r : Result Move StepError) (s : Result T StepError) (kept : Move → Type 0) → IsPassedOn r s kept → IfOk r (λ d. Made d m w) → OnOk s (HasMade kept m w)
kept_made m w (Ok d) (Ok t) kept is h = record { move = d; is_kept = is; made = h }
kept_made m w (Ok d) (Err e) kept is h = tt
kept_made m w (Err e) (Ok t) kept is h = absurd is
kept_made m w (Err e) (Err f) kept is h = tt

pub kept_weighs : {T : Type 0} (n : ℕ) (r : Result Move StepError) (s : Result T StepError) (kept : Move → Type 0) → IsPassedOn r s kept → IfOk r (λ d. weight d ≤ n) → OnOk s (WeighsAtMost kept n)
kept_weighs n (Ok d) (Ok t) kept is h = (d, is, h)
kept_weighs n (Ok d) (Err e) kept is h = tt
kept_weighs n (Err e) (Ok t) kept is h = absurd is
kept_weighs n (Err e) (Err f) kept is h = tt

weighs_is : (n : ℕ) (r : Result Move StepError) → IfOk r (λ d. weight d ≡ n) → IfOk r (λ d. weight d ≤ n)
weighs_is n (Ok d) h = omega (arith, h)
weighs_is n (Err e) h = tt

pub kept_weight : {T : Type 0} (n : ℕ) (r : Result Move StepError) (s : Result T StepError) (kept : Move → Type 0) → IsPassedOn r s kept → IfOk r (λ d. weight d ≡ n) → OnOk s (WeighsAtMost kept n)
kept_weight n r s kept is h = kept_weighs n r s kept is (weighs_is n r h)

pub kept_fault : {T : Type 0} (P : StepError → Type 0) (r : Result Move StepError) (s : Result T StepError) (kept : Move → Type 0) → IsPassedOn r s kept → IfErr r P → IfErr s P
kept_fault P (Ok d) (Ok t) kept is h = tt
kept_fault P (Ok d) (Err e) kept is h = absurd is
kept_fault P (Err e) (Ok t) kept is h = tt
kept_fault P (Err e) (Err f) kept is h = subst P is h

pub kept_same : {T : Type 0} (P : Type 0) (r : Result Move StepError) (s : Result T StepError) (kept : Move → Type 0) → IsPassedOn r s kept → OnErr r P → OnErr s P
kept_same P (Ok d) (Ok t) kept is h = tt
kept_same P (Ok d) (Err e) kept is h = absurd is
kept_same P (Err e) (Ok t) kept is h = tt
kept_same P (Err e) (Err f) kept is h = h

at_error : (T : Type 0) (e : StepError) (r : Result Move StepError) (kept : Move → Type 0) → IsPassedOn {T = T} r (Err e) kept → r ≡ Err e
at_error T e (Ok d) kept is = absurd is
at_error T e (Err w) kept is = ap (λ (x : StepError). Err x) is

pub kept_error : {T : Type 0} (e : StepError) (r : Result Move StepError) (s : Result T StepError) (kept : Move → Type 0) → IsPassedOn r s kept → s ≡ Err e → r ≡ Err e
kept_error {T} e r s kept is at = at_error T e r kept (subst (λ (x : Result T StepError). IsPassedOn r x kept) at is)
