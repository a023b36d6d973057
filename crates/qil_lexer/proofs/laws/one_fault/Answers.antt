-- Answers to the goals of `one_fault`.
use Rattle.qil_lexer.proofs.Law.{one_fault}
use Rattle.qil_lexer.proofs.laws.one_fault.Goals as goal

pub returns : goal.returns
returns c = one_fault
