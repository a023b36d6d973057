-- Answers to the goals of `run_over`.
use Rattle.qrev_sessions.proofs.running.run_over.Goals as goal

pub returns-in-Forward-clause-run : goal.returns-in-Forward-clause-run
returns-in-Forward-clause-run g c = λ wants. rw (c.in-Forward.is) c.run_to_depth.ensures.run

pub returns-in-Back-clause-run : goal.returns-in-Back-clause-run
returns-in-Back-clause-run g c = λ wants. rw (c.in-Back.is) c.run_back_to_depth.ensures.run

pub returns-in-BackPast-clause-run : goal.returns-in-BackPast-clause-run
returns-in-BackPast-clause-run g c = λ wants. rw (c.in-BackPast.is) c.run_back_past.ensures.run
