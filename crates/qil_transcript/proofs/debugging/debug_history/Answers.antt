-- Answers to the goals of `debug_history`.
use Rattle.qil_transcript.proofs.debugging.debug_history.Goals as goal

pub returns-clause-written : goal.returns-clause-written
returns-clause-written g c = c.debug_runs.ensures.written
