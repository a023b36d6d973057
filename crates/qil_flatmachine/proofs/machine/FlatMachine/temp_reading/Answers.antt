-- The slot is read in the innermost call of the function, which is that of its name.
use Rattle.std.proofs.Common.{◌∙◌, None, Some, ap, arith, length, refl}
use Rattle.std.specs.Prelude.{slice_index_or}
use Rattle.qil_machine.specs.Readings.{frame_of}
use Rattle.qil_machine.proofs.Watching.{has_read, is_read, no_slot, none_read}
use Rattle.qil_flatmachine.specs.Seen.{FlatWhole}
use Rattle.qil_flatmachine.proofs.Replacing.{machine_now}
use Rattle.qil_flatmachine.proofs.Viewing.{none_found, slots_found}
use Rattle.qil_flatmachine.proofs.machine.FlatMachine.temp_reading.Goals as goal

pub bounds-slots-from : goal.bounds-slots-from
bounds-slots-from g c =
    let found = slots_found (frame_of c.args.func.index c.args.self.now.whole.frames) c.in-Some-innermost_of.slots.now c.in-Some-innermost_of.ensures in
    let has = has_read c.args.self.now.whole c.code.result.now c.args.func.index c.args.slot.index c.in-Some.field-0 found.0 (machine_now _ _ _ _ _ _ c.args.self.now c.self.invariant c.self.view_is)
    (c.code.ensures.code ∙ ap (λ (x : FlatWhole _). x.whole.program) c.self.view_is) c.in-Some.ensures.code found.1 in
    omega (arith, has, c.from.ensures, ap length found.2)

pub returns-in-Some-innermost_of-clause-named : goal.returns-in-Some-innermost_of-clause-named
returns-in-Some-innermost_of-clause-named g c = λ source name there at.
    let found = slots_found (frame_of c.args.func.index c.args.self.now.whole.frames) c.in-Some-innermost_of.slots.now c.in-Some-innermost_of.ensures in
    is_read c.args.self.now.whole c.args.self.now.whole c.code.result.now c.args.func.index c.args.slot.index source name (Some found.0) _ refl (machine_now _ _ _ _ _ _ c.args.self.now c.self.invariant c.self.view_is)
    (c.code.ensures.code ∙ ap (λ (x : FlatWhole _). x.whole.program) c.self.view_is) c.in-Some.ensures.finds found.1
    (ap (λ k. slice_index_or c.in-Some-innermost_of.slots.now k None) c.from.ensures ∙ ap (λ us. slice_index_or us c.args.slot.index None) found.2) there at

pub returns-in-Some-innermost_of-clause-unknown : goal.returns-in-Some-innermost_of-clause-unknown
returns-in-Some-innermost_of-clause-unknown g c = λ none.
    no_slot c.args.self.now.whole c.args.self.now.whole c.code.result.now c.args.func.index c.args.slot.index c.in-Some.field-0 refl (c.code.ensures.code ∙ ap (λ (x : FlatWhole _). x.whole.program) c.self.view_is) c.in-Some.ensures.code none

pub returns-in-None-innermost_of-clause-named : goal.returns-in-None-innermost_of-clause-named
returns-in-None-innermost_of-clause-named g c = λ source name there at.
    is_read c.args.self.now.whole c.args.self.now.whole c.code.result.now c.args.func.index c.args.slot.index source name None None refl (machine_now _ _ _ _ _ _ c.args.self.now c.self.invariant c.self.view_is)
    (c.code.ensures.code ∙ ap (λ (x : FlatWhole _). x.whole.program) c.self.view_is) c.in-Some.ensures.finds (none_found (frame_of c.args.func.index c.args.self.now.whole.frames) c.in-None-innermost_of.ensures) refl there at

pub returns-in-None-clause-named : goal.returns-in-None-clause-named
returns-in-None-clause-named g c = λ source name there at.
    none_read c.args.self.now.whole c.args.self.now.whole c.code.result.now c.args.func.index c.args.slot.index name refl (c.code.ensures.code ∙ ap (λ (x : FlatWhole _). x.whole.program) c.self.view_is) c.in-None.ensures.code at
