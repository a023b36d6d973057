-- Which numbers are taken, by hand: where they are others, the types differ.
use Rattle.std.proofs.Common.{◌∙◌, ap, Some}
use Rattle.qil_options.proofs.run.args_arg.Goals as goal

pub returns-clause-values : goal.returns-clause-values
returns-clause-values c = c.value_parser-2.ensures.given.1 ∙ ap Some (c.value_parser-2.ensures.given.2 ∙ c.value_parser.ensures)
