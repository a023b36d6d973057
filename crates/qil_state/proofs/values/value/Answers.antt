use Rattle.std.proofs.Common.{◌≡◌, ◌∙◌, sym, refl, ap, Some, None}
use Rattle.std.specs.Prelude.{get_or}
use Rattle.qil_state.proofs.Reading.{slot_val_is}
use Rattle.qil_state.proofs.values.value.Goals as goal

pub returns-in-Some : goal.returns-in-Some
returns-in-Some g c p ns are =
    let is = c.in-Slot.is in
    let value = c.unary-in-Some.ensures.value in
    let held : get_or c.args.slots.now c.in-Slot.slot.index None ≡ Some c.in-Some.v = ap (λ i. get_or c.args.slots.now i None) (sym c.from.ensures) ∙ c.in-Some.is in
    rw (sym (slot_val_is p ns c.args.slots.now c.args.class c.args.source are c.requires)) (rw is (rw held (rw value refl)))

pub returns-in-None : goal.returns-in-None
returns-in-None g c p ns are =
    let is = c.in-Slot.is in
    let held : get_or c.args.slots.now c.in-Slot.slot.index None ≡ None = ap (λ i. get_or c.args.slots.now i None) (sym c.from.ensures) ∙ c.in-None.is in
    rw (sym (slot_val_is p ns c.args.slots.now c.args.class c.args.source are c.requires)) (rw is (rw held refl))
