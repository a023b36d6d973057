-- The goals of `padding_is_zero` that the check leaves open.
use Rattle.qil_layout_builder.proofs.LawLemmas.{rest_is_zero}
use Rattle.qil_layout_builder.proofs.laws.padding_is_zero.Goals as goal

pub returns : goal.returns
returns g c = λ p i none own h free. rest_is_zero p none own i h free
