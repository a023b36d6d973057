-- What is due is what stands at the place of the frame, and at the places after it as far as the instructions are plain.
use Rattle.std.proofs.Common.{◌≡◌, ◌+◌, ◌-◌, ◌∙◌, sym, ap, subst, refl, arith, None, Some}
use Rattle.std.specs.Prelude.{slice_get}
use Rattle.std.specs.Option.{option_copied}
use Rattle.qil_code.specs.Numbered.{names_of}
use Rattle.qil_code.specs.Reading.{block_code_at, labels_at}
use Rattle.qil_code.proofs.NamedCode.{copied_at}
use Rattle.qil_state.proofs.Place.{block_here}
use Rattle.qil_state.proofs.Reading.{are_slots}
use Rattle.qil_compare.proofs.Due.{inst_due, jump_due}
use Rattle.qil_compare.proofs.Stretching.{plain_as, stretch_as, due_as, stretch_plain, stretch_call, stretch_jump, stretch_one}
use Rattle.qil_compare.proofs.ahead.look_ahead.Goals as goal

pub returns-then-not-is_return : goal.returns-then-not-is_return
returns-then-not-is_return g c = λ fs func s at frames.
    let p = c.args.code.now in
    let f = c.args.frame.now in
    let block = c.in-Some.block.now in
    let to = c.first_other-at.result in
    let later = c.first_other-at.ensures.later in
    let here = block_here p f.func f.block block ((λ i. block_code_at p (sym c.func.ensures i) (sym c.block.ensures i)) ∙ sym c.in-Some.ensures.code) in
    stretch_as p c.args.kinds s func c.quiet.result _ _ c.quiet.ensures
    (stretch_jump p c.args.kinds f fs s block func here to (to - c.index-from.result) c.requires.finds c.in-Some.ensures.knows at frames
    (plain_as c.args.kinds.writes c.as_slice-insts.result.now block.insts c.index-from.result f.index to c.as_slice-insts.ensures c.index-from.ensures c.first_other-at.ensures.plain)
    (omega (arith, c.index-from.ensures, later))
    ((λ i. slice_get (sym c.as_slice-insts.ensures i) to) ∙ sym (copied_at c.get.result c.as_slice-insts.result.now to c.get.ensures.lookup.3) ∙ ap (λ o. option_copied o) c.in_default-get.is)
    (sym c.is_return.ensures ∙ c.if-not-is_return.true))

pub returns-then-plain-gt0 : goal.returns-then-plain-gt0
returns-then-plain-gt0 g c = λ fs func s at frames.
    let p = c.args.code.now in
    let f = c.args.frame.now in
    let block = c.in-Some.block.now in
    let to = c.first_other-at.result in
    let later = c.first_other-at.ensures.later in
    let here = block_here p f.func f.block block ((λ i. block_code_at p (sym c.func.ensures i) (sym c.block.ensures i)) ∙ sym c.in-Some.ensures.code) in
    stretch_as p c.args.kinds s func c.quiet-then-plain-gt0.result _ _ c.quiet-then-plain-gt0.ensures
    (stretch_plain p c.args.kinds f fs s block func here to (to - c.index-from.result) c.requires.finds at frames
    (plain_as c.args.kinds.writes c.as_slice-insts.result.now block.insts c.index-from.result f.index to c.as_slice-insts.ensures c.index-from.ensures c.first_other-at.ensures.plain)
    (omega (arith, c.index-from.ensures, later)) (omega (arith, c.if-plain-gt0.true)))

pub returns-in_default-get : goal.returns-in_default-get
returns-in_default-get g c = λ fs func s at frames.
    let p = c.args.code.now in
    let f = c.args.frame.now in
    let block = c.in-Some.block.now in
    let to = c.first_other-at.result in
    let later = c.first_other-at.ensures.later in
    let none = c.if-plain-gt0.false in
    let same : to ≡ f.index = omega (arith, c.index-from.ensures, later, none) in
    stretch_as p c.args.kinds s func c.one.result _ _ c.one.ensures
    (stretch_one p c.args.kinds s func c.return_ahead.result (due_as p c.args.kinds f fs s func c.return_ahead.result frames
    (jump_due p c.args.kinds f fs block func c.return_ahead.result c.requires.finds c.in-Some.ensures.knows at
    ((λ i. block_code_at p (sym c.func.ensures i) (sym c.block.ensures i)) ∙ sym c.in-Some.ensures.code)
    ((λ i. slice_get (sym c.as_slice-insts.ensures i) (sym same i)) ∙ sym (copied_at c.get.result c.as_slice-insts.result.now to c.get.ensures.lookup.3) ∙ ap (λ o. option_copied o) c.in_default-get.is)
    c.return_ahead.ensures.writes (c.return_ahead.ensures.value (names_of p f.func) (labels_at p f.func) (are_slots p f c.requires.fits)))))

pub returns-then-is_call : goal.returns-then-is_call
returns-then-is_call g c = λ fs func s at frames.
    let p = c.args.code.now in
    let f = c.args.frame.now in
    let block = c.in-Some.block.now in
    let to = c.first_other-at.result in
    let later = c.first_other-at.ensures.later in
    let here = block_here p f.func f.block block ((λ i. block_code_at p (sym c.func.ensures i) (sym c.block.ensures i)) ∙ sym c.in-Some.ensures.code) in
    stretch_as p c.args.kinds s func c.quiet-then-is_call.result _ _ c.quiet-then-is_call.ensures
    (stretch_call p c.args.kinds f fs s block func here to (to - c.index-from.result) c.in-Some-get.inst.now c.requires.finds at frames
    (plain_as c.args.kinds.writes c.as_slice-insts.result.now block.insts c.index-from.result f.index to c.as_slice-insts.ensures c.index-from.ensures c.first_other-at.ensures.plain)
    (omega (arith, c.index-from.ensures, later))
    ((λ i. slice_get (sym c.as_slice-insts.ensures i) to) ∙ sym (copied_at c.get.result c.as_slice-insts.result.now to c.get.ensures.lookup.3) ∙ ap (λ o. option_copied o) c.in-Some-get.is)
    (sym c.is_call.ensures ∙ c.if-is_call.true))

pub returns-then-plain-gt0-2 : goal.returns-then-plain-gt0-2
returns-then-plain-gt0-2 g c = λ fs func s at frames.
    let p = c.args.code.now in
    let f = c.args.frame.now in
    let block = c.in-Some.block.now in
    let to = c.first_other-at.result in
    let later = c.first_other-at.ensures.later in
    let here = block_here p f.func f.block block ((λ i. block_code_at p (sym c.func.ensures i) (sym c.block.ensures i)) ∙ sym c.in-Some.ensures.code) in
    stretch_as p c.args.kinds s func c.quiet-then-plain-gt0-2.result _ _ c.quiet-then-plain-gt0-2.ensures
    (stretch_plain p c.args.kinds f fs s block func here to (to - c.index-from.result) c.requires.finds at frames
    (plain_as c.args.kinds.writes c.as_slice-insts.result.now block.insts c.index-from.result f.index to c.as_slice-insts.ensures c.index-from.ensures c.first_other-at.ensures.plain)
    (omega (arith, c.index-from.ensures, later)) (omega (arith, c.if-plain-gt0-2.true)))

pub returns : goal.returns
returns g c = λ fs func s at frames.
    let p = c.args.code.now in
    let f = c.args.frame.now in
    let block = c.in-Some.block.now in
    let to = c.first_other-at.result in
    let later = c.first_other-at.ensures.later in
    let none = c.if-plain-gt0-2.false in
    let same : to ≡ f.index = omega (arith, c.index-from.ensures, later, none) in
    stretch_as p c.args.kinds s func c.one-2.result _ _ c.one-2.ensures
    (stretch_one p c.args.kinds s func c.write_ahead.result (due_as p c.args.kinds f fs s func c.write_ahead.result frames
    (inst_due p c.args.kinds f fs block c.in-Some-get.inst.now func c.write_ahead.result c.requires.finds at
    ((λ i. block_code_at p (sym c.func.ensures i) (sym c.block.ensures i)) ∙ sym c.in-Some.ensures.code)
    ((λ i. slice_get (sym c.as_slice-insts.ensures i) (sym same i)) ∙ sym (copied_at c.get.result c.as_slice-insts.result.now to c.get.ensures.lookup.3) ∙ ap (λ o. option_copied o) c.in-Some-get.is)
    (λ asked. c.write_ahead.ensures.writes p (names_of p f.func) (are_slots p f c.requires.fits)) c.write_ahead.ensures.value)))
