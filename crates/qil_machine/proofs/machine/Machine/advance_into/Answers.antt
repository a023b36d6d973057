use Rattle.std.proofs.Common.{subst}
use Rattle.qil_machine.proofs.Weights.{least_cost}
use Rattle.qil_machine.proofs.Advancing.{step_done, step_faulted}
use Rattle.qil_machine.proofs.machine.Machine.advance_into.Goals as goal

pub returns-in-Ok-clause-step : goal.returns-in-Ok-clause-step
returns-in-Ok-clause-step g c = step_done c.args.self.now _ c.in-Ok.ensures.does

pub returns-in-Err-Fault-clause-step : goal.returns-in-Err-Fault-clause-step
returns-in-Err-Fault-clause-step g c =
    step_faulted c.args.self.now c.step.new.self c.end.new.self c.in-Err-Fault.fault c.in-Err-Fault.ensures.err (rw c.in-Err-Fault.field-0-is at c.in-Err-Fault.ensures.fault) c.end.ensures.after

pub returns-in-Ok-clause-cost : goal.returns-in-Ok-clause-cost
returns-in-Ok-clause-cost g c = c.in-Ok.ensures.weighs

pub returns-in-Err-Fault-clause-cost : goal.returns-in-Err-Fault-clause-cost
returns-in-Err-Fault-clause-cost g c =
    (c.end.result, subst (λ k. g.K.UndoSink.takes k c.keep.new.self c.end.result) c.in-Err-Fault.ensures.none c.keep.ensures, rw c.end.ensures.weighs (least_cost c.args.self.now.program _))
