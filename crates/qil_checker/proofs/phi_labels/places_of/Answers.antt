-- What search would try in vain at first is answered here at once.
use Rattle.std.proofs.Common.{arith}
use Rattle.std.proofs.lemmas.Grind.{common_steps}
use borrow.Author.Differences.{ints}
use Rattle.qil_checker.proofs.phi_labels.places_of.Goals as goal

pub loop-place-init : goal.loop-place-init
loop-place-init c = grind (ints, arith, common_steps)
