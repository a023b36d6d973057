-- What is ahead is what stands at the place of the frame.
use Rattle.std.proofs.Common.{◌∙◌, sym, ap, subst}
use Rattle.std.specs.Prelude.{slice_get}
use Rattle.std.specs.Option.{option_copied}
use Rattle.qil_semantics.specs.Slots.{temps_of}
use Rattle.qil_code.specs.Numbered.{names_of}
use Rattle.qil_code.specs.Named.{named_inst}
use Rattle.qil_code.specs.Reading.{block_code_at}
use Rattle.qil_code.proofs.NamedCode.{copied_at}
use Rattle.qil_state.specs.Values.{AreSlots}
use Rattle.qil_state.proofs.Reading.{are_slots}
use Rattle.qil_accesses.specs.Accesses.{inst_accesses}
use Rattle.qil_accesses.proofs.Here.{inst_made, jump_made}
use Rattle.qil_accesses.proofs.ahead.frame_ahead.Goals as goal

pub inst_ahead-requires-clause-slots : goal.inst_ahead-requires-clause-slots
inst_ahead-requires-clause-slots g c =
    let p = c.args.code.now in
    let f = c.args.frame.now in
    subst (λ k. AreSlots (names_of p k) c.slots-slots.result.now) (sym c.func-func.ensures)
    (subst (λ vs. AreSlots (names_of p f.func) vs) (sym c.slots-slots.ensures.value) (are_slots p f c.requires))

pub returns-in-Some-get : goal.returns-in-Some-get
returns-in-Some-get g c = λ fs at s t written.
    let p = c.args.code.now in
    let f = c.args.frame.now in
    inst_made p f fs c.in-Some.block.now c.in-Some-get.inst.now c.inst_ahead.result at s t c.in-Some.ensures.finds
    ((λ i. block_code_at p (sym c.func-func.ensures i) (sym c.block.ensures i)) ∙ sym c.in-Some.ensures.code)
    ((λ i. slice_get (sym c.as_slice.ensures i) (sym c.index.ensures i)) ∙ sym (copied_at c.get.result c.as_slice.result.now c.index.result c.get.ensures.lookup.3) ∙ ap (λ o. option_copied o) c.in-Some-get.is)
    (c.inst_ahead.ensures at s t written
    ∙ (λ i. inst_accesses p (temps_of (names_of p (c.func-func.ensures i)) (c.slots-slots.ensures.value i)) at s t (named_inst (names_of p (c.func-func.ensures i)) c.in-Some-get.inst.now)))

pub returns-in-None : goal.returns-in-None
returns-in-None g c = λ fs at s t written.
    let p = c.args.code.now in
    let f = c.args.frame.now in
    jump_made p f fs c.in-Some.block.now at s t c.in-Some.ensures.finds
    ((λ i. block_code_at p (sym c.func-func.ensures i) (sym c.block.ensures i)) ∙ sym c.in-Some.ensures.code)
    ((λ i. slice_get (sym c.as_slice.ensures i) (sym c.index.ensures i)) ∙ sym (copied_at c.get.result c.as_slice.result.now c.index.result c.get.ensures.lookup.3) ∙ ap (λ o. option_copied o) c.in-None.is)
