use Rattle.std.proofs.Common.{◌≡◌, ◌∙◌, ap, sym, subst, Ok, OnOk, IfErr, arith}
use Rattle.qil_state.specs.State.{state_of, head_names}
use Rattle.qil_state.specs.Stepping.{left_whole}
use Rattle.qil_machine.specs.Results.{Explains}
use Rattle.qil_machine.proofs.Jumps.{branch_fails, branched_zero, branched_set, takes_zero, takes_set}
use Rattle.qil_machine.proofs.machine.Machine.branch.Goals as goal

pub returns-in-Err-clause-fault : goal.returns-in-Err-clause-fault
returns-in-Err-clause-fault g c =
    ap (left_whole c.args.self.now) c.requires.jump
    ∙ branch_fails _ c.args.self.now c.innermost.result.now c.slots.result.now c.args.source c.args.if_set.now c.args.if_zero.now c.in-Err.fault c.self.view_is c.self.invariant c.innermost.ensures c.slots.ensures.value c.in-Err.ensures

pub returns-then-value-eq0-clause-does : goal.returns-then-value-eq0-clause-does
returns-then-value-eq0-clause-does g c =
    subst (λ o. OnOk c.take_edge.result (o ≡ Ok (state_of c.take_edge.new.self)))
    (sym (ap (left_whole c.args.self.now) c.requires.jump
    ∙ branched_zero _ c.args.self.now c.innermost.result.now c.slots.result.now c.args.source c.args.if_set.now c.args.if_zero.now c.in-Ok.value c.self.view_is c.self.invariant c.innermost.ensures c.slots.ensures.value c.in-Ok.ensures c.if-value-eq0.true))
    c.take_edge.ensures.does

pub returns-then-value-eq0-clause-fault : goal.returns-then-value-eq0-clause-fault
returns-then-value-eq0-clause-fault g c =
    subst (λ o. IfErr c.take_edge.result (Explains (head_names c.args.self.now.program c.args.self.now.frames) o))
    (sym (ap (left_whole c.args.self.now) c.requires.jump
    ∙ branched_zero _ c.args.self.now c.innermost.result.now c.slots.result.now c.args.source c.args.if_set.now c.args.if_zero.now c.in-Ok.value c.self.view_is c.self.invariant c.innermost.ensures c.slots.ensures.value c.in-Ok.ensures c.if-value-eq0.true))
    c.take_edge.ensures.fault

pub returns-clause-does : goal.returns-clause-does
returns-clause-does g c =
    subst (λ o. OnOk c.take_edge-2.result (o ≡ Ok (state_of c.take_edge-2.new.self)))
    (sym (ap (left_whole c.args.self.now) c.requires.jump
    ∙ branched_set _ c.args.self.now c.innermost.result.now c.slots.result.now c.args.source c.args.if_set.now c.args.if_zero.now c.in-Ok.value c.self.view_is c.self.invariant c.innermost.ensures c.slots.ensures.value c.in-Ok.ensures (omega (arith, c.if-value-eq0.false))))
    c.take_edge-2.ensures.does

pub returns-clause-fault : goal.returns-clause-fault
returns-clause-fault g c =
    subst (λ o. IfErr c.take_edge-2.result (Explains (head_names c.args.self.now.program c.args.self.now.frames) o))
    (sym (ap (left_whole c.args.self.now) c.requires.jump
    ∙ branched_set _ c.args.self.now c.innermost.result.now c.slots.result.now c.args.source c.args.if_set.now c.args.if_zero.now c.in-Ok.value c.self.view_is c.self.invariant c.innermost.ensures c.slots.ensures.value c.in-Ok.ensures (omega (arith, c.if-value-eq0.false))))
    c.take_edge-2.ensures.fault

pub returns-then-value-eq0-clause-memory : goal.returns-then-value-eq0-clause-memory
returns-then-value-eq0-clause-memory g c =
    takes_zero _ c.args.self.now c.innermost.result.now c.slots.result.now c.args.source c.args.if_set.now c.args.if_zero.now c.in-Ok.value _ c.self.view_is c.self.invariant c.innermost.ensures c.slots.ensures.value c.in-Ok.ensures c.if-value-eq0.true c.take_edge.ensures.few

pub returns-clause-memory : goal.returns-clause-memory
returns-clause-memory g c =
    takes_set _ c.args.self.now c.innermost.result.now c.slots.result.now c.args.source c.args.if_set.now c.args.if_zero.now c.in-Ok.value _ c.self.view_is c.self.invariant c.innermost.ensures c.slots.ensures.value c.in-Ok.ensures (omega (arith, c.if-value-eq0.false)) c.take_edge-2.ensures.few
