-- By hand, as a search takes three seconds to find them: a call counted from the innermost one, in the list that begins with the outermost.
use Rattle.std.proofs.Common.{◌≡◌, ◌∙◌, refl, sym, ap, ℕ, ◌+◌, ◌-◌, ◌<◌, ◌≤◌, List, length, get_or, reverse, Option, Some, None, arith}
use Rattle.std.specs.Prelude.{slice_get}
use Rattle.std.proofs.lemmas.List.{length-reverse, get_or-reverse}
use Rattle.std.proofs.lemmas.Option.{slice_get_past, slice_get_read}
use Rattle.qil_history.proofs.readers.MachineReadersCode.frame.Goals as goal

found : {X : Type 0} (fs gs : List X) (inner outside : ℕ) (x : X) → gs ≡ reverse fs → outside + 1 + inner ≡ length gs → x ≡ get_or gs outside x → Some x ≡ slice_get fs inner
found fs gs inner outside x turned all is =
    let long : length gs ≡ length fs = ap (λ v. length v) turned ∙ length-reverse fs in
    let back : length fs - 1 - outside ≡ inner = omega (arith, long, all) in
    sym (slice_get_read fs (length fs) inner x refl (omega (arith, long, all))
    (is ∙ ap (λ v. get_or v outside x) turned ∙ get_or-reverse fs outside x (omega (arith, long, all)) ∙ ap (λ n. get_or fs n x) back))

beyond : {X : Type 0} (fs gs : List X) (inner : ℕ) → gs ≡ reverse fs → length gs ≤ inner → None ≡ slice_get fs inner
beyond fs gs inner turned past = let long : length gs ≡ length fs = ap (λ v. length v) turned ∙ length-reverse fs in sym (slice_get_past fs inner (omega (arith, long, past)))

pub returns-in_err-checked_sub-clause-frame : goal.returns-in_err-checked_sub-clause-frame
returns-in_err-checked_sub-clause-frame g c =
    c.from_residual.ensures ∙ beyond c.args.self.now.frames c.frames-frames.result.now c.args.inner c.frames-frames.ensures.value (omega (arith, c.in_err-checked_sub.ensures))

pub returns-in_err-checked_sub-clause-machine : goal.returns-in_err-checked_sub-clause-machine
returns-in_err-checked_sub-clause-machine g c = c.frames-frames.ensures.machine

pub returns-in_err-outside-clause-frame : goal.returns-in_err-outside-clause-frame
returns-in_err-outside-clause-frame g c =
    c.from_residual-in_err-outside.ensures ∙ beyond c.args.self.now.frames c.frames-frames.result.now c.args.inner c.frames-frames.ensures.value (omega (arith, c.in_ok-checked_sub.ensures, c.in_err-outside.ensures))

pub returns-in_err-outside-clause-machine : goal.returns-in_err-outside-clause-machine
returns-in_err-outside-clause-machine g c = c.frames-frames.ensures.machine

pub returns-clause-frame : goal.returns-clause-frame
returns-clause-frame g c =
    ap Some c.view_of.ensures
    ∙ found c.args.self.now.frames c.frames-frames.result.now c.args.inner c.in_ok-outside.outside c.index-frames-outside.result c.frames-frames.ensures.value
    (omega (arith, c.in_ok-checked_sub.ensures, c.in_ok-outside.ensures)) c.index-frames-outside.is

pub returns-clause-machine : goal.returns-clause-machine
returns-clause-machine g c = c.frames-frames.ensures.machine
