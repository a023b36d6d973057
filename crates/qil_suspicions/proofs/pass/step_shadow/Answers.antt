-- The shadow's step at the place of the innermost frame.
use Rattle.std.proofs.Common.{sym}
use Rattle.qil_suspicions.proofs.Beside.{stepped}
use Rattle.qil_suspicions.proofs.pass.step_shadow.Goals as goal

pub returns-clause-stepped : goal.returns-clause-stepped
returns-clause-stepped g c = λ goes.
    stepped c.args.machine.now.whole c.code.result.now c.in-Some.frame _ c.slots.result.now c.args.shadow.now _ c.code.ensures c.in-Some.ensures.machine (sym c.in-Some.ensures.frame)
    c.func.ensures c.block.ensures c.index.ensures c.slots.ensures.value c.in_ok-step.ensures.found c.in_ok-step.ensures.next
