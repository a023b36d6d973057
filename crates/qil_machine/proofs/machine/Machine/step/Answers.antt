use Rattle.qil_machine.proofs.Weights.{perform_costs, leave_costs}
use Rattle.std.proofs.Common.{sym, subst, ◌≡◌, Ok, OnOk, IfErr}
use Rattle.qil_state.specs.State.{state_of, head_names}
use Rattle.qil_machine.specs.Results.{Explains}
use Rattle.qil_machine.proofs.Advancing.{inst_found, jump_found}
use Rattle.qil_machine.proofs.machine.Machine.step.Goals as goal

pub perform-requires-clause-range : goal.perform-requires-clause-range
perform-requires-clause-range g c = (inst_found _ c.args.self.now c.here-index.result.0.now c.in-Some.inst.now c.here-index.result.1 c.self.view_is c.self.invariant c.here-index.ensures (rw c.as_slice.ensures at c.in-Some.ensures)).range

pub perform-requires-clause-next : goal.perform-requires-clause-next
perform-requires-clause-next g c = (inst_found _ c.args.self.now c.here-index.result.0.now c.in-Some.inst.now c.here-index.result.1 c.self.view_is c.self.invariant c.here-index.ensures (rw c.as_slice.ensures at c.in-Some.ensures)).next

pub leave_apart-requires-clause-end : goal.leave_apart-requires-clause-end
leave_apart-requires-clause-end g c = sym (rw c.as_slice.ensures at c.in-None.ensures)

pub returns-in-Some-clause-does : goal.returns-in-Some-clause-does
returns-in-Some-clause-does g c =
    subst (λ o. OnOk c.perform.result (o ≡ Ok (state_of c.perform.new.self))) (sym (inst_found _ c.args.self.now c.here-index.result.0.now c.in-Some.inst.now c.here-index.result.1 c.self.view_is c.self.invariant c.here-index.ensures (rw c.as_slice.ensures at c.in-Some.ensures)).does) c.perform.ensures.does

pub returns-in-Some-clause-fault : goal.returns-in-Some-clause-fault
returns-in-Some-clause-fault g c =
    subst (λ o. IfErr c.perform.result (Explains (head_names c.args.self.now.program c.args.self.now.frames) o)) (sym (inst_found _ c.args.self.now c.here-index.result.0.now c.in-Some.inst.now c.here-index.result.1 c.self.view_is c.self.invariant c.here-index.ensures (rw c.as_slice.ensures at c.in-Some.ensures)).does) c.perform.ensures.fault

pub returns-in-None-clause-does : goal.returns-in-None-clause-does
returns-in-None-clause-does g c =
    subst (λ o. OnOk c.leave_apart.result (o ≡ Ok (state_of c.leave_apart.new.self))) (sym (jump_found c.args.self.now c.here-index.result.0.now c.here-index.result.1 c.here-index.ensures (rw c.as_slice.ensures at c.in-None.ensures))) c.leave_apart.ensures.does

pub returns-in-None-clause-fault : goal.returns-in-None-clause-fault
returns-in-None-clause-fault g c =
    subst (λ o. IfErr c.leave_apart.result (Explains (head_names c.args.self.now.program c.args.self.now.frames) o)) (sym (jump_found c.args.self.now c.here-index.result.0.now c.here-index.result.1 c.here-index.ensures (rw c.as_slice.ensures at c.in-None.ensures))) c.leave_apart.ensures.fault

pub returns-in-Some-clause-weighs : goal.returns-in-Some-clause-weighs
returns-in-Some-clause-weighs g c =
    perform_costs _ c.args.self.now c.perform.new.self c.here-index.result.0.now c.in-Some.inst.now c.here-index.result.1 _ c.perform.result c.self.view_is c.self.invariant c.here-index.ensures (rw c.as_slice.ensures at c.in-Some.ensures)
    c.perform.ensures.does c.perform.ensures.weighs

pub returns-in-None-clause-weighs : goal.returns-in-None-clause-weighs
returns-in-None-clause-weighs g c =
    leave_costs _ c.args.self.now c.leave_apart.new.self c.here-index.result.0.now c.here-index.result.1 _ c.leave_apart.result c.self.view_is c.self.invariant c.here-index.ensures (rw c.as_slice.ensures at c.in-None.ensures)
    c.leave_apart.ensures.does c.leave_apart.ensures.weighs
