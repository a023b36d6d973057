-- Answers to the goals of `script_has_answers`.
use Rattle.std.proofs.Common.{refl}
use Rattle.qil_replies.specs.Answers.{answers}
use Rattle.qil_replies.proofs.ReachedLemmas.{ample}
use Rattle.qil_replies.proofs.script.script_has_answers.Goals as goal

pub returns : goal.returns
returns g c = λ s lines. let all = ample s lines in (answers s lines all.0, (all.0, all.1, refl))
