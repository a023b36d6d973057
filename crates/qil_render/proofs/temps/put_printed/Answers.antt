-- Answers to the goals of `put_printed`.
use Rattle.std.proofs.Common.{◌∙◌}
use Rattle.qil_symbols.specs.Numbers.{place_of}
use Rattle.qil_code.specs.Numbered.{names_of}
use Rattle.qil_render.proofs.Here.{printed_none, printed_some, printed_unknown, has_slot, named_slot}
use Rattle.qil_render.proofs.temps.put_printed.Goals as goal

pub returns-in_default : goal.returns-in_default
returns-in_default g c =
    rw (printed_none (g.M.Readers.whole c.args.machine.now).program (g.M.Readers.whole c.args.machine.now).frames c.args.name.now c.in_default.ensures.frame) c.put_line.ensures

pub value-requires : goal.value-requires
value-requires g c =
    has_slot (g.M.Readers.whole c.args.machine.now).program (g.M.Readers.whole c.args.machine.now).frames c.in-Some.frame c.args.name.now c.in-Some-slot_of.slot c.innermost.ensures.fits c.in-Some.ensures.frame
    (c.in-Some-slot_of.ensures.place ∙ (λ i. place_of (names_of (c.code_of.ensures i) (c.func.ensures i)) c.args.name.now))

pub returns-in-Some-slot_of : goal.returns-in-Some-slot_of
returns-in-Some-slot_of g c =
    let at = c.in-Some-slot_of.ensures.place ∙ (λ i. place_of (names_of (c.code_of.ensures i) (c.func.ensures i)) c.args.name.now) in
    rw (printed_some (g.M.Readers.whole c.args.machine.now).program (g.M.Readers.whole c.args.machine.now).frames c.in-Some.frame c.args.name.now c.in-Some-slot_of.slot.index c.value.result c.innermost.ensures.fits
    (rw c.code_of.ensures at c.in-Some-slot_of.ensures.finds) c.in-Some.ensures.frame at
    (c.value.ensures.named c.args.name.now (named_slot (g.M.Readers.whole c.args.machine.now).program (g.M.Readers.whole c.args.machine.now).frames c.in-Some.frame c.args.name.now c.in-Some-slot_of.slot.index c.in-Some.ensures.frame at)))
    c.put_value.ensures

pub returns-in-None : goal.returns-in-None
returns-in-None g c =
    rw (printed_unknown (g.M.Readers.whole c.args.machine.now).program (g.M.Readers.whole c.args.machine.now).frames c.in-Some.frame c.args.name.now c.innermost.ensures.fits
    (rw c.code_of.ensures at c.in-None.ensures.finds) c.in-Some.ensures.frame (c.in-None.ensures.place ∙ (λ i. place_of (names_of (c.code_of.ensures i) (c.func.ensures i)) c.args.name.now)))
    c.put_line-in-None.ensures
