-- Answers to the goals of `debug_code`.
use Rattle.std.proofs.Common.{◌∙◌}
use Rattle.qil_transcript.proofs.debugging.debug_code.Goals as goal

pub returns-in-Ok-clause-written : goal.returns-in-Ok-clause-written
returns-in-Ok-clause-written g c = λ text verdict accepts loaded same. c.debug_flat.ensures.written text verdict accepts loaded (c.in-Ok.ensures ∙ same)
