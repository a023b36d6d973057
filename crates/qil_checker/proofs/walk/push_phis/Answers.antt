-- What search would try in vain at first is answered here at once.
use Rattle.std.proofs.Common.{arith}
use Rattle.std.proofs.lemmas.Grind.{common_steps}
use borrow.Author.Differences.{ints}
use Rattle.qil_checker.proofs.walk.push_phis.Goals as goal

pub loop-phi-init : goal.loop-phi-init
loop-phi-init c = grind (ints, arith, common_steps)

pub offset_bounds-phis-phi-index : goal.offset_bounds-phis-phi-index
offset_bounds-phis-phi-index c = grind (ints, arith, common_steps)

pub bounds-phis-phi-index : goal.bounds-phis-phi-index
bounds-phis-phi-index c = grind (ints, arith, common_steps)

pub returns-in_err-push_phi : goal.returns-in_err-push_phi
returns-in_err-push_phi c = grind (ints, arith, common_steps)

pub loop-phi-smaller : goal.loop-phi-smaller
loop-phi-smaller c = grind (ints, arith, common_steps)

pub loop-phi-preserved : goal.loop-phi-preserved
loop-phi-preserved c = grind (ints, arith, common_steps)

pub returns : goal.returns
returns c = grind (ints, arith, common_steps)
