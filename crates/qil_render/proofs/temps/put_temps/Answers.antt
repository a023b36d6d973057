-- Answers to the goals of `put_temps`.
use Rattle.qil_render.proofs.SlotValues.{temps_none, temps_unnamed, temps_named, slots_long}
use Rattle.std.proofs.Common.{sym, ◌∙◌, length}
use Rattle.qil_code.specs.Numbered.{names_of}
use Rattle.qil_render.proofs.temps.put_temps.Goals as goal

pub returns-in_default : goal.returns-in_default
returns-in_default g c = rw (temps_none (g.M.Readers.whole c.args.machine.now).program (g.M.Readers.whole c.args.machine.now).frames c.in_default.ensures.frame) c.put_line.ensures

pub returns-then-slot_count-eq0 : goal.returns-then-slot_count-eq0
returns-then-slot_count-eq0 g c =
    let none = c.slot_count.ensures ∙ (λ i. length (names_of (c.code_of-code.ensures i) (c.func.ensures i))) in
    rw (temps_unnamed (g.M.Readers.whole c.args.machine.now).program (g.M.Readers.whole c.args.machine.now).frames c.in-Some.frame c.innermost.ensures.fits (rw c.code_of-code.ensures at c.names_are_distinct.ensures.finds) c.in-Some.ensures.frame (sym none ∙ c.if-slot_count-eq0.true))
    c.put_line-then-slot_count-eq0.ensures

pub put_slots-requires-clause-slots : goal.put_slots-requires-clause-slots
put_slots-requires-clause-slots g c =
    rw c.code_of-code.ensures (slots_long (g.M.Readers.whole c.args.machine.now).program (g.M.Readers.whole c.args.machine.now).frames c.in-Some.frame c.innermost.ensures.fits c.in-Some.ensures.frame)

pub returns : goal.returns
returns g c =
    let some = c.slot_count.ensures ∙ (λ i. length (names_of (c.code_of-code.ensures i) (c.func.ensures i))) in
    rw (temps_named (g.M.Readers.whole c.args.machine.now).program (g.M.Readers.whole c.args.machine.now).frames c.in-Some.frame c.innermost.ensures.fits (rw c.code_of-code.ensures at c.names_are_distinct.ensures.finds) c.in-Some.ensures.frame (λ none. c.if-slot_count-eq0.false (some ∙ none)))
    (rw c.code_of-code.ensures at c.put_slots.ensures)
