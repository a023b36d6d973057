-- The goals of `least_multiple` that the check leaves open.
use Rattle.qil_layout_builder.proofs.LawLemmas.{rounded_is}
use Rattle.qil_layout_builder.proofs.laws.least_multiple.Goals as goal

pub returns : goal.returns
returns c = rounded_is
