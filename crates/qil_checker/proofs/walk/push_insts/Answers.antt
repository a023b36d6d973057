-- What search would try in vain at first is answered here at once.
use Rattle.std.proofs.Common.{arith}
use Rattle.std.proofs.lemmas.Grind.{common_steps}
use borrow.Author.Differences.{ints}
use Rattle.qil_checker.proofs.walk.push_insts.Goals as goal

pub loop-inst-init : goal.loop-inst-init
loop-inst-init c = grind (ints, arith, common_steps)

pub offset_bounds-insts-inst-index : goal.offset_bounds-insts-inst-index
offset_bounds-insts-inst-index c = grind (ints, arith, common_steps)

pub bounds-insts-inst-index : goal.bounds-insts-inst-index
bounds-insts-inst-index c = grind (ints, arith, common_steps)

pub returns-in_err-push_kind : goal.returns-in_err-push_kind
returns-in_err-push_kind c = grind (ints, arith, common_steps)

pub loop-inst-smaller : goal.loop-inst-smaller
loop-inst-smaller c = grind (ints, arith, common_steps)

pub loop-inst-preserved : goal.loop-inst-preserved
loop-inst-preserved c = grind (ints, arith, common_steps)

pub returns : goal.returns
returns c = grind (ints, arith, common_steps)
