-- Answers to the goals of `run`.
use Rattle.std.specs.Prelude.{true}
use Rattle.qrev_sessions.proofs.running.run.Goals as goal

pub returns-clause-rest : goal.returns-clause-rest
returns-clause-rest g c = c.run_over.ensures.rest true

pub returns-clause-run : goal.returns-clause-run
returns-clause-run g c = c.run_over.ensures.run true
