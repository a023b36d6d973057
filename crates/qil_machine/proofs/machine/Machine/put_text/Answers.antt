use Rattle.std.proofs.Common.{arith}
use Rattle.std.proofs.lemmas.Grind.{common_steps}
use borrow.Author.Differences.{ints}
use Rattle.qil_machine.proofs.Writing.{text_machine, text_after, text_full}
use Rattle.qil_machine.proofs.machine.Machine.put_text.Goals as goal

pub invariant_of-self : goal.invariant_of-self
invariant_of-self g c =
    text_machine _ c.args.address c.in-Ok.count c.reserve.new.output.items c.copy_text.new.output.items c.self.invariant c.in-Ok-reserve.ensures.same c.copy_text.ensures.items c.in-Ok-reserve.ensures.room

pub returns-in-Ok-reserve-clause-after : goal.returns-in-Ok-reserve-clause-after
returns-in-Ok-reserve-clause-after g c =
    text_after _ c.args.self.now c.wrote.new.self c.args.address c.in-Ok.count c.args.index c.args.to c.reserve.new.output.items c.copy_text.new.output.items c.self.view_is c.in-Ok.ensures.text c.in-Ok-reserve.ensures.room
    c.in-Ok-reserve.ensures.same c.copy_text.ensures.items c.wrote.ensures.after

pub returns-in-Err-reserve-clause-fault : goal.returns-in-Err-reserve-clause-fault
returns-in-Err-reserve-clause-fault g c =
    text_full _ c.args.self.now c.args.address c.in-Ok.count c.in-Err-reserve.error c.self.view_is c.in-Ok.ensures.text c.in-Err-reserve.ensures.fault

pub returns-in-Err-clause-after : goal.returns-in-Err-clause-after
returns-in-Err-clause-after c = grind (ints, arith, common_steps)

pub returns-in-Err-clause-made : goal.returns-in-Err-clause-made
returns-in-Err-clause-made c = grind (ints, arith, common_steps)

pub returns-in-Err-clause-weighs : goal.returns-in-Err-clause-weighs
returns-in-Err-clause-weighs c = grind (ints, arith, common_steps)

pub returns-in-Err-clause-fault : goal.returns-in-Err-clause-fault
returns-in-Err-clause-fault c = grind (ints, arith, common_steps)

pub returns-in-Err-clause-err : goal.returns-in-Err-clause-err
returns-in-Err-clause-err c = grind (ints, arith, common_steps)

pub overflow_cast-written : goal.overflow_cast-written
overflow_cast-written c = grind (ints, arith, common_steps)

pub overflow_add-count : goal.overflow_add-count
overflow_add-count c = grind (ints, arith, common_steps)

pub copy_text-requires-clause-room : goal.copy_text-requires-clause-room
copy_text-requires-clause-room c = grind (ints, arith, common_steps)

pub copy_text-requires-clause-live : goal.copy_text-requires-clause-live
copy_text-requires-clause-live c = grind (ints, arith, common_steps)

pub copy_text-requires-clause-fits : goal.copy_text-requires-clause-fits
copy_text-requires-clause-fits c = grind (ints, arith, common_steps)

pub wrote-requires-clause-running : goal.wrote-requires-clause-running
wrote-requires-clause-running c = grind (ints, arith, common_steps)

pub wrote-requires-clause-receiver : goal.wrote-requires-clause-receiver
wrote-requires-clause-receiver c = grind (ints, arith, common_steps)

pub wrote-requires-clause-next : goal.wrote-requires-clause-next
wrote-requires-clause-next c = grind (ints, arith, common_steps)

pub wrote-requires-clause-small : goal.wrote-requires-clause-small
wrote-requires-clause-small c = grind (ints, arith, common_steps)

pub wrote-requires-clause-behind : goal.wrote-requires-clause-behind
wrote-requires-clause-behind c = grind (ints, arith, common_steps)

pub invariant_of-self-in-Err-reserve : goal.invariant_of-self-in-Err-reserve
invariant_of-self-in-Err-reserve c = grind (ints, arith, common_steps)

pub returns-in-Ok-reserve-clause-made : goal.returns-in-Ok-reserve-clause-made
returns-in-Ok-reserve-clause-made c = grind (ints, arith, common_steps)

pub returns-in-Ok-reserve-clause-weighs : goal.returns-in-Ok-reserve-clause-weighs
returns-in-Ok-reserve-clause-weighs c = grind (ints, arith, common_steps)

pub returns-in-Ok-reserve-clause-fault : goal.returns-in-Ok-reserve-clause-fault
returns-in-Ok-reserve-clause-fault c = grind (ints, arith, common_steps)

pub returns-in-Ok-reserve-clause-err : goal.returns-in-Ok-reserve-clause-err
returns-in-Ok-reserve-clause-err c = grind (ints, arith, common_steps)

pub returns-in-Err-reserve-clause-after : goal.returns-in-Err-reserve-clause-after
returns-in-Err-reserve-clause-after c = grind (ints, arith, common_steps)

pub returns-in-Err-reserve-clause-made : goal.returns-in-Err-reserve-clause-made
returns-in-Err-reserve-clause-made c = grind (ints, arith, common_steps)

pub returns-in-Err-reserve-clause-weighs : goal.returns-in-Err-reserve-clause-weighs
returns-in-Err-reserve-clause-weighs c = grind (ints, arith, common_steps)

pub returns-in-Err-reserve-clause-err : goal.returns-in-Err-reserve-clause-err
returns-in-Err-reserve-clause-err c = grind (ints, arith, common_steps)
