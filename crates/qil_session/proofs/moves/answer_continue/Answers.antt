-- Answers to the goals of `answer_continue`.
use Rattle.std.proofs.Common.{sym, ◌∙◌, ap, subst, List}
use Rattle.qil_semantics.specs.State.{State, is_final}
use Rattle.qil_semantics.specs.Runs.{RunsOn}
use Rattle.qil_stops.specs.declared.stop.NumberedStop.{NumberedStop}
use Rattle.qil_stops.specs.Named.{named_stops}
use Rattle.qil_session.proofs.MoveAnswers.{replies_run_end, replies_run}
use Rattle.qil_session.proofs.moves.answer_continue.Goals as goal

pub returns-then-is_over-clause-replied : goal.returns-then-is_over-clause-replied
returns-then-is_over-clause-replied g c =
    replies_run_end (g.H.Runs.program c.args.history.now) (g.H.Runs.timeline c.args.history.now) c.args.stops.now c.args.limit
    (ap (λ (s : State). is_final s.status) (sym c.machine.ensures.now) ∙ sym c.is_over.ensures ∙ c.if-is_over.true)

pub returns-clause-replied : goal.returns-clause-replied
returns-clause-replied g c =
    replies_run (g.H.Runs.program c.args.history.now) (g.H.Runs.timeline c.args.history.now) (g.H.Runs.timeline c.run-reason.new.self) c.args.stops.now c.args.limit
    c.run-reason.result.1 c.run-reason.result.0
    (ap (λ (s : State). is_final s.status) (sym c.machine.ensures.now) ∙ sym c.is_over.ensures ∙ c.if-is_over.false) c.run-reason.ensures.spared
    (subst (λ (list : List NumberedStop). RunsOn (g.H.Runs.program c.args.history.now) (named_stops (g.H.Runs.program c.args.history.now) list) c.args.limit (g.H.Runs.timeline c.args.history.now) c.run-reason.result.0 c.run-reason.result.1 (g.H.Runs.timeline c.run-reason.new.self)) c.list.ensures.stops c.run-reason.ensures.run)
