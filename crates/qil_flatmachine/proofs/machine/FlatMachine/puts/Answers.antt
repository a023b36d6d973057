use Rattle.std.proofs.Common.{refl, Some}
use Rattle.qil_tree.specs.declared.ops.AbiType.TheVariants as types
use Rattle.qil_layout.specs.declared.callee.Callee.TheVariants.{Puts}
use Rattle.qil_machine.proofs.Calling.{built_in_fails}
use Rattle.qil_machine.proofs.Writing.{puts_does}
use Rattle.qil_flatmachine.specs.Fetched.{index_in}
use Rattle.qil_flatmachine.proofs.Unwritten.{puts_fails}
use Rattle.qil_flatmachine.proofs.Operands.{slots_are}
use Rattle.qil_flatmachine.proofs.Passed.{whole_is}
use Rattle.qil_flatmachine.proofs.machine.FlatMachine.puts.Goals as goal

pub returns-in-Err-clause-fault : goal.returns-in-Err-clause-fault
returns-in-Err-clause-fault g c =
    built_in_fails _ c.args.self.now.whole c.args.to c.args.args.now c.slots-slots.result.now Puts types.L (Some types.W) c.in-Err.fault (whole_is _ _ _ _ _ _ c.self.view_is)
    (slots_are _ _ _ _ _ _ c.args.self.now c.slots-slots.result.now c.self.view_is c.self.invariant c.requires.running c.slots-slots.ensures.value) (refl, refl) c.in-Err.ensures

pub returns-in-Ok-put_text-clause-does : goal.returns-in-Ok-put_text-clause-does
returns-in-Ok-put_text-clause-does g c =
    puts_does _ c.args.self.now.whole _ c.args.to c.args.args.now c.slots-slots.result.now (index_in c.args.self.now.whole.frames) c.in-Ok.text (whole_is _ _ _ _ _ _ c.self.view_is) c.self.invariant.machine
    (slots_are _ _ _ _ _ _ c.args.self.now c.slots-slots.result.now c.self.view_is c.self.invariant c.requires.running c.slots-slots.ensures.value) c.in-Ok.ensures c.requires.receiver c.requires.next c.in-Ok-put_text.ensures.after

pub returns-in-Err-put_text-clause-fault : goal.returns-in-Err-put_text-clause-fault
returns-in-Err-put_text-clause-fault g c =
    puts_fails _ c.args.self.now.whole c.args.to c.args.args.now c.slots-slots.result.now c.in-Ok.text c.in-Err-put_text.fault (whole_is _ _ _ _ _ _ c.self.view_is)
    (slots_are _ _ _ _ _ _ c.args.self.now c.slots-slots.result.now c.self.view_is c.self.invariant c.requires.running c.slots-slots.ensures.value) c.in-Ok.ensures c.in-Err-put_text.ensures.fault
