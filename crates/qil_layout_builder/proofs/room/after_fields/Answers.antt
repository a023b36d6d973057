-- What search would try in vain at first is answered here at once.
use Rattle.std.proofs.Common.{arith}
use Rattle.std.proofs.lemmas.Grind.{common_steps}
use borrow.Author.Differences.{ints}
use Rattle.qil_layout_builder.proofs.room.after_fields.Goals as goal

pub loop-field-init : goal.loop-field-init
loop-field-init c = grind (ints, arith, common_steps)

pub offset_bounds-fields-field-index : goal.offset_bounds-fields-field-index
offset_bounds-fields-field-index c = grind (ints, arith, common_steps)

pub bounds-fields-field-index : goal.bounds-fields-field-index
bounds-fields-field-index c = grind (ints, arith, common_steps)

pub returns-in-None : goal.returns-in-None
returns-in-None c = grind (ints, arith, common_steps)

pub loop-field-smaller : goal.loop-field-smaller
loop-field-smaller c = grind (ints, arith, common_steps)

pub loop-field-preserved : goal.loop-field-preserved
loop-field-preserved c = grind (ints, arith, common_steps)

pub returns : goal.returns
returns c = grind (ints, arith, common_steps)
