-- Answers to the goals of `cut_shapes`.
use Rattle.qil_lexer.proofs.Law.{cut_shapes}
use Rattle.qil_lexer.proofs.laws.cut_shapes.Goals as goal

pub returns : goal.returns
returns c = cut_shapes
