-- The goals of `names_are_own` that the check leaves open.
use Rattle.qil_layout_builder.proofs.OwnNames.{own_names}
use Rattle.qil_layout_builder.proofs.laws.names_are_own.Goals as goal

pub returns : goal.returns
returns g c = λ p kept. own_names p kept
