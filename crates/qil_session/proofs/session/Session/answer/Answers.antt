-- An answer is a reply, and its text.
use Rattle.qil_session.specs.Kept.{session_state}
use Rattle.qil_session.proofs.ShownAnswers.{answers_by}
use Rattle.qil_session.proofs.session.Session.answer.Goals as goal

pub returns-clause-answered : goal.returns-clause-answered
returns-clause-answered g c =
    answers_by (session_state g.H.Runs.wants_memory g.H.Runs.program g.H.Runs.timeline c.args.self.now) (session_state g.H.Runs.wants_memory g.H.Runs.program g.H.Runs.timeline c.reply-reply.new.self) c.args.said c.reply-reply.result
    c.put_reply.result _ _ c.reply-reply.ensures.replied c.put_reply.ensures.text
