-- Answers to the goals of `back`.
use Rattle.qil_session.proofs.MoveAnswers.{back_reported, replies_no_back, replies_back}
use Rattle.qil_session.proofs.moves.back.Goals as goal

pub returns-in-Some-clause-replied : goal.returns-in-Some-clause-replied
returns-in-Some-clause-replied g c = λ stops limit.
    replies_no_back (g.H.Runs.program c.args.history.now) (g.H.Runs.timeline c.args.history.now) stops limit c.args.count c.in-Some.refusal
    (back_reported (g.H.Runs.timeline c.args.history.now) c.position.result c.oldest.result _ _ c.position.ensures c.oldest.ensures c.no_way_back.ensures c.in-Some.is)

pub returns-clause-replied : goal.returns-clause-replied
returns-clause-replied g c = λ stops limit.
    replies_back (g.H.Runs.program c.args.history.now) (g.H.Runs.timeline c.args.history.now) (g.H.Runs.timeline c.back_by.new.self) stops limit c.args.count
    (back_reported (g.H.Runs.timeline c.args.history.now) c.position.result c.oldest.result _ _ c.position.ensures c.oldest.ensures c.no_way_back.ensures c.in_default.is) c.back_by.ensures.moved
