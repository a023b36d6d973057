use Rattle.std.proofs.Common.{◌%◌, refl, ap, Some}
use Rattle.qil_tree.specs.declared.ops.AbiType.TheVariants as types
use Rattle.qil_layout.specs.declared.callee.Callee.TheVariants.{PutChar}
use Rattle.qil_machine.proofs.Calling.{built_in_fails}
use Rattle.qil_machine.proofs.Writing.{char_does}
use Rattle.qil_flatmachine.specs.Seen.{FlatWhole}
use Rattle.qil_flatmachine.specs.Fetched.{index_in}
use Rattle.qil_flatmachine.proofs.Unwritten.{char_fails}
use Rattle.qil_flatmachine.proofs.Operands.{slots_are}
use Rattle.qil_flatmachine.proofs.Passed.{whole_is}
use Rattle.qil_flatmachine.proofs.machine.FlatMachine.put_char.Goals as goal

pub returns-in-Err-clause-fault : goal.returns-in-Err-clause-fault
returns-in-Err-clause-fault g c =
    built_in_fails _ c.args.self.now.whole c.args.to c.args.args.now c.slots-slots.result.now PutChar types.W (Some types.W) c.in-Err.fault (whole_is _ _ _ _ _ _ c.self.view_is)
    (slots_are _ _ _ _ _ _ c.args.self.now c.slots-slots.result.now c.self.view_is c.self.invariant c.requires.running c.slots-slots.ensures.value) (refl, refl) c.in-Err.ensures

pub returns-in-Ok-put_byte-clause-does : goal.returns-in-Ok-put_byte-clause-does
returns-in-Ok-put_byte-clause-does g c =
    char_does _ c.args.self.now.whole _ c.args.to c.args.args.now c.slots-slots.result.now (index_in c.args.self.now.whole.frames) c.in-Ok.word (c.in-Ok.word % 256) (whole_is _ _ _ _ _ _ c.self.view_is) c.self.invariant.machine
    (slots_are _ _ _ _ _ _ c.args.self.now c.slots-slots.result.now c.self.view_is c.self.invariant c.requires.running c.slots-slots.ensures.value) c.in-Ok.ensures refl c.requires.receiver c.requires.next c.in-Ok-put_byte.ensures.room (ap (λ (x : FlatWhole _). x.whole) c.in-Ok-put_byte.ensures.after)

pub returns-in-Err-put_byte-clause-fault : goal.returns-in-Err-put_byte-clause-fault
returns-in-Err-put_byte-clause-fault g c =
    char_fails _ c.args.self.now.whole c.args.to c.args.args.now c.slots-slots.result.now c.in-Ok.word c.in-Err-put_byte.fault (whole_is _ _ _ _ _ _ c.self.view_is)
    (slots_are _ _ _ _ _ _ c.args.self.now c.slots-slots.result.now c.self.view_is c.self.invariant c.requires.running c.slots-slots.ensures.value) c.in-Ok.ensures c.in-Err-put_byte.ensures.full.0 c.in-Err-put_byte.ensures.full.1
