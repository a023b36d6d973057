-- Answers to the goals of `one_cut`.
use Rattle.qil_lexer.proofs.Law.{one_cut}
use Rattle.qil_lexer.proofs.laws.one_cut.Goals as goal

pub returns : goal.returns
returns c = one_cut
