-- What search would try in vain at first is answered here at once.
use Rattle.std.proofs.Common.{arith}
use Rattle.std.proofs.lemmas.Grind.{common_steps}
use borrow.Author.Differences.{ints}
use Rattle.qil_checker.proofs.walk.push_sources.Goals as goal

pub loop-source-init : goal.loop-source-init
loop-source-init c = grind (ints, arith, common_steps)

pub offset_bounds-sources-source-index : goal.offset_bounds-sources-source-index
offset_bounds-sources-source-index c = grind (ints, arith, common_steps)

pub bounds-sources-source-index : goal.bounds-sources-source-index
bounds-sources-source-index c = grind (ints, arith, common_steps)

pub returns-in_err-push_source : goal.returns-in_err-push_source
returns-in_err-push_source c = grind (ints, arith, common_steps)

pub loop-source-smaller : goal.loop-source-smaller
loop-source-smaller c = grind (ints, arith, common_steps)

pub loop-source-preserved : goal.loop-source-preserved
loop-source-preserved c = grind (ints, arith, common_steps)

pub returns : goal.returns
returns c = grind (ints, arith, common_steps)
