-- Answers to the goals of `one_string`.
use Rattle.qil_lexer.proofs.Values.{some_bytes, one_bytes}
use Rattle.qil_lexer.proofs.laws.one_string.Goals as goal

pub returns-clause-some : goal.returns-clause-some
returns-clause-some c = some_bytes

pub returns-clause-one : goal.returns-clause-one
returns-clause-one c = one_bytes
