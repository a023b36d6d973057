use Rattle.std.proofs.Common.{ap}
use Rattle.qil_machine.proofs.Weights.{called_gives}
use Rattle.std.proofs.Common.{◌%◌, refl, Some}
use Rattle.qil_tree.specs.declared.ops.AbiType.TheVariants as types
use Rattle.qil_layout.specs.declared.callee.Callee.TheVariants.{PutChar}
use Rattle.qil_machine.proofs.Steps.{slots_are}
use Rattle.qil_machine.proofs.Calling.{built_in_fails}
use Rattle.qil_machine.proofs.Writing.{char_does}
use Rattle.qil_machine.proofs.machine.Machine.put_char.Goals as goal

pub returns-in-Err-clause-fault : goal.returns-in-Err-clause-fault
returns-in-Err-clause-fault g c =
    built_in_fails _ c.args.self.now c.args.to c.args.args.now c.slots-slots.result.now PutChar types.W (Some types.W) c.in-Err.fault c.self.view_is
    (slots_are _ c.innermost.result.now _ c.innermost.ensures c.slots-slots.ensures.value) (refl, refl) c.in-Err.ensures

pub returns-in-Ok-put_byte-clause-does : goal.returns-in-Ok-put_byte-clause-does
returns-in-Ok-put_byte-clause-does g c =
    char_does _ c.args.self.now _ c.args.to c.args.args.now c.slots-slots.result.now c.args.index c.in-Ok.word (c.in-Ok.word % 256) c.self.view_is c.self.invariant
    (slots_are _ c.innermost.result.now _ c.innermost.ensures c.slots-slots.ensures.value) c.in-Ok.ensures refl c.requires.receiver c.requires.next c.in-Ok-put_byte.ensures.room c.in-Ok-put_byte.ensures.after

pub returns-in-Ok-put_byte-clause-weighs : goal.returns-in-Ok-put_byte-clause-weighs
returns-in-Ok-put_byte-clause-weighs g c = called_gives c.args.to _ _ c.args.self.now.frames _ _ (ap (λ w. w.frames) c.in-Ok-put_byte.ensures.after) c.in-Ok-put_byte.ensures.weighs
