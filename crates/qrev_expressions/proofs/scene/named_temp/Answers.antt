-- Answers to the goals of `named_temp`.
use Rattle.std.proofs.Common.{◌≡◌, ◌∙◌, ap, sym, Some}
use Rattle.std.specs.Prelude.{slice_get}
use Rattle.std.specs.Option.{option_copied}
use Rattle.qil_code.specs.Numbered.{names_of}
use Rattle.qil_code.proofs.Has.{name-at}
use Rattle.qil_code.proofs.NamedCode.{copied_at}
use Rattle.qil_state.specs.State.{FrameFits}
use Rattle.qrev_views.proofs.Rows.{frame_fits, held}
use Rattle.qrev_expressions.proofs.scene.named_temp.Goals as goal

pub returns : goal.returns
returns g c = λ k at.
    let p = (g.M.Readers.whole c.args.machine.now).program in
    let f = c.args.frame.now in
    let x = c.args.name.now in
    let i = c.in_ok-slot.slot.index in
    let v = c.in_ok-value.field-0.now in
    let fits : FrameFits p f = frame_fits p (g.M.Readers.whole c.args.machine.now).frames k f c.frame-there.ensures.machine.frames at in
    let name : slice_get (names_of p f.func) i ≡ Some x = name-at (names_of p f.func) x i (sym (rw (c.code_of-code.ensures, c.func-2.ensures) at c.in_ok-slot.ensures.place)) in
    let value : slice_get f.slots i ≡ Some v =
    (λ j. slice_get (sym c.slots.ensures.value j) (sym c.from.ensures j))
    ∙ (sym (copied_at c.get.result c.slots.result.now c.from.result c.get.ensures.lookup.3) ∙ ap (λ o. option_copied o) c.in_ok-value.was) in
    sym (held p f i x v fits name value)
