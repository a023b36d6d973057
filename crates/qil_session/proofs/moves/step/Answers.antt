-- Answers to the goals of `step`.
use Rattle.std.proofs.Common.{sym, ◌∙◌, ap}
use Rattle.qil_semantics.specs.State.{State, is_final}
use Rattle.qil_session.proofs.MoveAnswers.{replies_end, replies_step, replies_step_wants, step_wants}
use Rattle.qil_session.proofs.moves.step.Goals as goal

pub returns-then-is_over-clause-replied : goal.returns-then-is_over-clause-replied
returns-then-is_over-clause-replied g c = λ stops limit.
    replies_end (g.H.Runs.program c.args.history.now) (g.H.Runs.timeline c.args.history.now) stops limit c.args.count
    (ap (λ (s : State). is_final s.status) (sym c.machine.ensures.now) ∙ sym c.is_over.ensures ∙ c.if-is_over.true)

pub returns-in-Ok-clause-replied : goal.returns-in-Ok-clause-replied
returns-in-Ok-clause-replied g c = λ stops limit.
    replies_step (g.H.Runs.program c.args.history.now) (g.H.Runs.timeline c.args.history.now) (g.H.Runs.timeline c.forward_by.new.self) stops limit c.args.count
    (ap (λ (s : State). is_final s.status) (sym c.machine.ensures.now) ∙ sym c.is_over.ensures ∙ c.if-is_over.false) c.in-Ok.ensures.moved

pub returns-in-Err-clause-replied : goal.returns-in-Err-clause-replied
returns-in-Err-clause-replied g c = λ stops limit.
    let m = c.in-Err.ensures.moved in
    replies_step_wants (g.H.Runs.program c.args.history.now) (g.H.Runs.timeline c.args.history.now) (g.H.Runs.timeline c.forward_by.new.self) stops limit c.args.count c.in-Err._made
    (step_wants g.H.Runs.wants_memory c.forward_by.result tt c.in-Err._made c.forward_by.ensures.spared c.in-Err.is) m.0 m.1 m.2
