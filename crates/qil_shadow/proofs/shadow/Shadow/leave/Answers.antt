-- By which jump it is.
use Rattle.qil_shadow.proofs.JumpLemmas.{jmp_named, jmp_lies, jnz_named, jnz_lies, ret_named, ret_lies, hlt_named, hlt_lies}
use Rattle.qil_shadow.proofs.shadow.Shadow.leave.Goals as goal

pub returns-in_ok-take_edge-in-Jmp-clause-named : goal.returns-in_ok-take_edge-in-Jmp-clause-named
returns-in_ok-take_edge-in-Jmp-clause-named g c = λ f fs func left is label at none by.
    jmp_named c.args.code.now c.args.place c.args.jump.now c.in-Jmp.edge func left f fs c.args.self.now c.take_edge.new.self c.in-Jmp.is is (λ target l e. c.in_ok-take_edge-in-Jmp.ensures.named f fs func left target l e label at)

pub returns-in_ok-take_edge-in-Jmp-clause-lies : goal.returns-in_ok-take_edge-in-Jmp-clause-lies
returns-in_ok-take_edge-in-Jmp-clause-lies g c = λ f fs func left is at none by.
    jmp_lies c.args.code.now c.args.place c.args.jump.now c.in-Jmp.edge func left c.args.self.now.calls c.take_edge.new.self.calls c.in-Jmp.is is c.in_ok-take_edge-in-Jmp.ensures.alike

pub returns-in_ok-take_one_of-in-Jnz-clause-named : goal.returns-in_ok-take_one_of-in-Jnz-clause-named
returns-in_ok-take_one_of-in-Jnz-clause-named g c = λ f fs func left is label at none by.
    jnz_named c.args.code.now c.args.place c.args.slots.now c.args.jump.now c.in-Jnz.test c.in-Jnz.set c.in-Jnz.zero func left f fs c.args.self.now c.take_one_of.new.self c.in-Jnz.is is by
    (λ one other l m v held e d. c.in_ok-take_one_of-in-Jnz.ensures.named f fs func left one other l m v held e d label at)

pub returns-in_ok-take_one_of-in-Jnz-clause-lies : goal.returns-in_ok-take_one_of-in-Jnz-clause-lies
returns-in_ok-take_one_of-in-Jnz-clause-lies g c = λ f fs func left is at none by.
    jnz_lies c.args.code.now c.args.place c.args.jump.now c.in-Jnz.test c.in-Jnz.set c.in-Jnz.zero func left c.args.self.now.calls c.take_one_of.new.self.calls c.in-Jnz.is is c.in_ok-take_one_of-in-Jnz.ensures.alike

pub returns-in_ok-leave_function-in-Ret-clause-named : goal.returns-in_ok-leave_function-in-Ret-clause-named
returns-in_ok-leave_function-in-Ret-clause-named g c = λ f fs func left is label at none by.
    ret_named c.args.code.now c.args.place c.args.slots.now c.args.jump.now c.in-Ret.operand func left f fs c.args.self.now c.leave_function.new.self c.in-Ret.is is at by
    (λ f j js m returned are called. c.in_ok-leave_function-in-Ret.ensures.named f j js m none returned are called)

pub returns-in_ok-leave_function-in-Ret-clause-lies : goal.returns-in_ok-leave_function-in-Ret-clause-lies
returns-in_ok-leave_function-in-Ret-clause-lies g c = λ f fs func left is at none by.
    ret_lies c.args.code.now c.args.place c.args.slots.now c.args.jump.now c.in-Ret.operand func left f fs c.args.self.now c.leave_function.new.self c.in-Ret.is is at by
    (λ m returned. c.in_ok-leave_function-in-Ret.ensures.calls m none returned)

pub returns-in-Hlt-clause-named : goal.returns-in-Hlt-clause-named
returns-in-Hlt-clause-named g c = λ f fs func left is label at none by. hlt_named c.args.code.now c.args.place c.args.jump.now func left f fs c.args.self.now c.in-Hlt.is is

pub returns-in-Hlt-clause-lies : goal.returns-in-Hlt-clause-lies
returns-in-Hlt-clause-lies g c = λ f fs func left is at none by. hlt_lies c.args.code.now c.args.place c.args.jump.now func left c.args.self.now.calls c.in-Hlt.is is
