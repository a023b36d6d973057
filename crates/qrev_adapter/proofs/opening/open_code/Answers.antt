-- Answers to the goals of `open_code`.
use Rattle.std.proofs.Common.{◌∙◌}
use Rattle.qrev_adapter.proofs.opening.open_code.Goals as goal

pub open_flat-requires-clause-accepted : goal.open_flat-requires-clause-accepted
open_flat-requires-clause-accepted g c =
    let accepted = c.requires.accepted in
    record {
      verdict = accepted.verdict;
      accepts = accepted.accepts;
      loaded_is = accepted.loaded_is;
      program = c.in-Ok.ensures ∙ accepted.program;
    }
