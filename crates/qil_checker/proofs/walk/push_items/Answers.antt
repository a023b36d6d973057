-- What search would try in vain at first is answered here at once.
use Rattle.std.proofs.Common.{arith}
use Rattle.std.proofs.lemmas.Grind.{common_steps}
use borrow.Author.Differences.{ints}
use Rattle.qil_checker.proofs.walk.push_items.Goals as goal

pub loop-item-init : goal.loop-item-init
loop-item-init c = grind (ints, arith, common_steps)

pub offset_bounds-items-item-index : goal.offset_bounds-items-item-index
offset_bounds-items-item-index c = grind (ints, arith, common_steps)

pub bounds-items-item-index : goal.bounds-items-item-index
bounds-items-item-index c = grind (ints, arith, common_steps)

pub returns-in_err-push_item : goal.returns-in_err-push_item
returns-in_err-push_item c = grind (ints, arith, common_steps)

pub loop-item-smaller : goal.loop-item-smaller
loop-item-smaller c = grind (ints, arith, common_steps)

pub loop-item-preserved : goal.loop-item-preserved
loop-item-preserved c = grind (ints, arith, common_steps)

pub returns : goal.returns
returns c = grind (ints, arith, common_steps)
