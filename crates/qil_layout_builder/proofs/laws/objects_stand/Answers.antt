-- The goals of `objects_stand` that the check leaves open.
use Rattle.qil_layout_builder.proofs.LawLemmas.{object_stands}
use Rattle.qil_layout_builder.proofs.Named.{lies_some}
use Rattle.qil_layout_builder.proofs.laws.objects_stand.Goals as goal

pub returns-clause-some : goal.returns-clause-some
returns-clause-some g c = λ p k d none own there. lies_some p k d own there

pub returns-clause-all : goal.returns-clause-all
returns-clause-all g c = λ p k d a none own l. object_stands p none own k d a l
