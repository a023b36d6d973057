-- Answers to the goals of `run_in`.
use Rattle.std.specs.Prelude.{false}
use Rattle.qrev_sessions.proofs.copies.run_in.Goals as goal

pub returns-clause-rest : goal.returns-clause-rest
returns-clause-rest g c = c.run_over.ensures.rest false
