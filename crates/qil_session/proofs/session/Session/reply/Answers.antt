-- Answers to the goals of `reply`, where the line spells no command.
use Rattle.qil_session.specs.Kept.{session_state}
use Rattle.qil_session.proofs.ShownAnswers.{replies_nothing, replies_refusal}
use Rattle.qil_session.proofs.session.Session.reply.Goals as goal

pub returns-in-Ok-None-clause-replied : goal.returns-in-Ok-None-clause-replied
returns-in-Ok-None-clause-replied g c = rw (c.in-Ok-None.is, c.in-Ok-None.field-0-is) (replies_nothing (session_state g.H.Runs.wants_memory g.H.Runs.program g.H.Runs.timeline c.args.self.now))

pub returns-in-Err-clause-replied : goal.returns-in-Err-clause-replied
returns-in-Err-clause-replied g c = rw c.in-Err.is (replies_refusal (session_state g.H.Runs.wants_memory g.H.Runs.program g.H.Runs.timeline c.args.self.now) c.in-Err.refused)
