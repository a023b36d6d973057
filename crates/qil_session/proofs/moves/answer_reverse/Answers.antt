-- Answers to the goals of `answer_reverse`.
use Rattle.std.proofs.Common.{subst, List}
use Rattle.qil_semantics.specs.Runs.{RunsBack}
use Rattle.qil_stops.specs.declared.stop.NumberedStop.{NumberedStop}
use Rattle.qil_stops.specs.Named.{named_stops}
use Rattle.qil_session.proofs.MoveAnswers.{back_reported, replies_no_reverse, replies_reverse}
use Rattle.qil_session.proofs.moves.answer_reverse.Goals as goal

pub returns-in-Some-clause-replied : goal.returns-in-Some-clause-replied
returns-in-Some-clause-replied g c =
    replies_no_reverse (g.H.Runs.program c.args.history.now) (g.H.Runs.timeline c.args.history.now) c.args.stops.now c.args.limit c.in-Some.refusal
    (back_reported (g.H.Runs.timeline c.args.history.now) c.position.result c.oldest.result _ _ c.position.ensures c.oldest.ensures c.no_way_back.ensures c.in-Some.is)

pub returns-clause-replied : goal.returns-clause-replied
returns-clause-replied g c =
    replies_reverse (g.H.Runs.program c.args.history.now) (g.H.Runs.timeline c.args.history.now) (g.H.Runs.timeline c.run_back-reason.new.self) c.args.stops.now c.args.limit
    c.run_back-reason.result.1 c.run_back-reason.result.0
    (back_reported (g.H.Runs.timeline c.args.history.now) c.position.result c.oldest.result _ _ c.position.ensures c.oldest.ensures c.no_way_back.ensures c.in_default.is)
    (subst (λ (list : List NumberedStop). RunsBack (named_stops (g.H.Runs.program c.args.history.now) list) c.args.limit (g.H.Runs.timeline c.args.history.now) c.run_back-reason.result.0 c.run_back-reason.result.1 (g.H.Runs.timeline c.run_back-reason.new.self)) c.list.ensures.stops c.run_back-reason.ensures.run)
