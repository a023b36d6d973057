-- All counts are as many as there are suspicions.
use Rattle.std.proofs.Common.{◌∙◌, arith}
use Rattle.qil_suspicions.specs.Notes.{noted}
use Rattle.qil_suspicions.proofs.Noting.{sum_total, total_noted}
use Rattle.qil_suspicions.proofs.laws.all_are_counted.Goals as goal

pub returns : goal.returns
returns g xs = sum_total (noted xs) ∙ total_noted xs
