-- What search would try in vain at first is answered here at once.
use Rattle.std.proofs.Common.{arith}
use Rattle.std.proofs.lemmas.Grind.{common_steps}
use borrow.Author.Differences.{ints}
use Rattle.qil_checker.proofs.walk.push_blocks.Goals as goal

pub loop-block-init : goal.loop-block-init
loop-block-init c = grind (ints, arith, common_steps)

pub offset_bounds-blocks-block-index : goal.offset_bounds-blocks-block-index
offset_bounds-blocks-block-index c = grind (ints, arith, common_steps)

pub bounds-blocks-block-index : goal.bounds-blocks-block-index
bounds-blocks-block-index c = grind (ints, arith, common_steps)

pub returns-in_err-push_block : goal.returns-in_err-push_block
returns-in_err-push_block c = grind (ints, arith, common_steps)

pub loop-block-smaller : goal.loop-block-smaller
loop-block-smaller c = grind (ints, arith, common_steps)

pub loop-block-preserved : goal.loop-block-preserved
loop-block-preserved c = grind (ints, arith, common_steps)

pub returns : goal.returns
returns c = grind (ints, arith, common_steps)
