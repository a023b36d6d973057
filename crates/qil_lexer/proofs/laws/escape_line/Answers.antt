-- Answers to the goals of `escape_line`.
use Rattle.qil_lexer.proofs.Escapes.{backslash_line}
use Rattle.qil_lexer.proofs.laws.escape_line.Goals as goal

pub returns : goal.returns
returns c = backslash_line
