-- The goals of `last_line` that the check leaves open.
use Rattle.qil_parser.proofs.Verdict.{last_is}
use Rattle.qil_parser.proofs.parser.last_line.Goals as goal

pub returns-in-Some : goal.returns-in-Some
returns-in-Some c = last_is c.args.tokens.now c.in-Some.last.now c.in-Some.ensures.value
