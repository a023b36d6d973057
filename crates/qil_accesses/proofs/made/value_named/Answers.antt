-- The slot of the name in the innermost frame, if there is one.
use Rattle.std.proofs.Common.{◌∙◌, sym, ap}
use Rattle.qil_symbols.specs.Numbers.{place_of}
use Rattle.qil_semantics.specs.State.{Name}
use Rattle.qil_code.specs.Numbered.{names_of}
use Rattle.qil_code.specs.Slots.{name_at}
use Rattle.qil_tree.specs.declared.tree.Program.{Program}
use Rattle.qil_state.specs.State.{frames_state}
use Rattle.qil_history.specs.qil_machine.Readings.{temp_here}
use Rattle.qil_accesses.proofs.Named.{has_slot, named_slot, unknown}
use Rattle.qil_accesses.proofs.made.value_named.Goals as goal

pub value-requires : goal.value-requires
value-requires g c =
    let w = g.M.Readers.whole c.args.machine.now in
    has_slot w.program w.frames c.in-Some.frame c.name_of-name.result.now c.in-Some-slot_of.slot c.in-Some.ensures.machine.frames c.in-Some.ensures.frame
    (c.in-Some-slot_of.ensures.place ∙ (λ i. place_of (names_of (c.code_of-code.ensures i) (c.func.ensures i)) c.name_of-name.result.now))

pub returns-in-Some-slot_of : goal.returns-in-Some-slot_of
returns-in-Some-slot_of g c =
    let w = g.M.Readers.whole c.args.machine.now in
    let at = c.in-Some-slot_of.ensures.place ∙ (λ i. place_of (names_of (c.code_of-code.ensures i) (c.func.ensures i)) c.name_of-name.result.now) in
    c.value.ensures.named c.name_of-name.result.now (named_slot w.program w.frames c.in-Some.frame c.name_of-name.result.now c.in-Some-slot_of.slot.index c.in-Some.ensures.frame at)
    ∙ ap (λ (x : Name). temp_here (frames_state w.program w.frames) x) (c.name_of-name.ensures ∙ ap (λ (p : Program _). name_at (names_of p c.args.func.index) c.args.slot.index) c.code_of-code.ensures)

pub returns-in-None : goal.returns-in-None
returns-in-None g c =
    let w = g.M.Readers.whole c.args.machine.now in
    let none = c.in-None.ensures.place ∙ (λ i. place_of (names_of (c.code_of-code.ensures i) (c.func.ensures i)) c.name_of-name.result.now) in
    unknown w.program w.frames c.in-Some.frame c.name_of-name.result.now c.in-Some.ensures.frame none
    ∙ ap (λ (x : Name). temp_here (frames_state w.program w.frames) x) (c.name_of-name.ensures ∙ ap (λ (p : Program _). name_at (names_of p c.args.func.index) c.args.slot.index) c.code_of-code.ensures)
