-- Answers to the goals of `open_laid_out`.
use Rattle.qrev_adapter.proofs.opening.open_laid_out.Goals as goal

pub open_code-requires-clause-accepted : goal.open_code-requires-clause-accepted
open_code-requires-clause-accepted g c = record {
  verdict = c.args.checked.now;
  accepts = record { checks = c.requires.checks; lies = c.requires.lies };
  loaded_is = c.new-loaded.ensures;
  program = c.in-Ok.ensures;
}
