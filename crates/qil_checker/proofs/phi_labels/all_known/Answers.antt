-- What search would try in vain at first is answered here at once.
use Rattle.std.proofs.Common.{arith}
use Rattle.std.proofs.lemmas.Grind.{common_steps, elements}
use borrow.Author.Differences.{ints}
use Rattle.qil_checker.proofs.phi_labels.all_known.Goals as goal

pub loop-place-init : goal.loop-place-init
loop-place-init c = grind (ints, arith, common_steps)

pub offset_bounds-names-place : goal.offset_bounds-names-place
offset_bounds-names-place c = grind (ints, arith, common_steps)

pub bounds-names-place : goal.bounds-names-place
bounds-names-place c = grind (ints, arith, common_steps)

pub returns-in-None : goal.returns-in-None
returns-in-None c = grind (ints, arith, elements)

pub loop-place-smaller : goal.loop-place-smaller
loop-place-smaller c = grind (ints, arith, common_steps)

pub loop-place-preserved : goal.loop-place-preserved
loop-place-preserved c = grind (ints, arith, elements)

pub returns : goal.returns
returns c = grind (ints, arith, elements)
