use Rattle.std.proofs.Common.{ap}
use Rattle.qil_machine.proofs.Weights.{called_gives}
use Rattle.std.proofs.Common.{refl, Some}
use Rattle.qil_tree.specs.declared.ops.AbiType.TheVariants as types
use Rattle.qil_layout.specs.declared.callee.Callee.TheVariants.{Puts}
use Rattle.qil_machine.proofs.Steps.{slots_are}
use Rattle.qil_machine.proofs.Calling.{built_in_fails}
use Rattle.qil_machine.proofs.Writing.{puts_does, puts_explains}
use Rattle.qil_machine.proofs.machine.Machine.puts.Goals as goal

pub returns-in-Ok-put_text-clause-does : goal.returns-in-Ok-put_text-clause-does
returns-in-Ok-put_text-clause-does g c =
    puts_does _ c.args.self.now _ c.args.to c.args.args.now c.slots-slots.result.now c.args.index c.in-Ok.text c.self.view_is c.self.invariant
    (slots_are _ c.innermost.result.now _ c.innermost.ensures c.slots-slots.ensures.value) c.in-Ok.ensures c.requires.receiver c.requires.next c.in-Ok-put_text.ensures.after

pub returns-in-Err-put_text-clause-fault : goal.returns-in-Err-put_text-clause-fault
returns-in-Err-put_text-clause-fault g c =
    puts_explains _ c.args.self.now c.args.to c.args.args.now c.slots-slots.result.now c.in-Ok.text c.in-Err-put_text.error c.self.view_is
    (slots_are _ c.innermost.result.now _ c.innermost.ensures c.slots-slots.ensures.value) c.in-Ok.ensures c.in-Err-put_text.ensures.fault

pub returns-in-Err-clause-fault : goal.returns-in-Err-clause-fault
returns-in-Err-clause-fault g c =
    built_in_fails _ c.args.self.now c.args.to c.args.args.now c.slots-slots.result.now Puts types.L (Some types.W) c.in-Err.fault c.self.view_is
    (slots_are _ c.innermost.result.now _ c.innermost.ensures c.slots-slots.ensures.value) (refl, refl) c.in-Err.ensures

pub returns-in-Ok-put_text-clause-weighs : goal.returns-in-Ok-put_text-clause-weighs
returns-in-Ok-put_text-clause-weighs g c = called_gives c.args.to _ _ c.args.self.now.frames _ _ (ap (λ w. w.frames) c.in-Ok-put_text.ensures.after.3) c.in-Ok-put_text.ensures.weighs
