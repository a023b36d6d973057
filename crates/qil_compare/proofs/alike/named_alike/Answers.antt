-- Each number is one more, to the first at which the names differ.
use Rattle.qil_compare.proofs.Likeness.{alike_none, alike_more}
use Rattle.qil_compare.proofs.alike.named_alike.Goals as goal

pub loop-index-init : goal.loop-index-init
loop-index-init g c = alike_none c.args.image.now c.args.other.now

pub returns-then-not-is_named_alike : goal.returns-then-not-is_named_alike
returns-then-not-is_named_alike g c = c.loop-index.invariant

pub loop-index-preserved : goal.loop-index-preserved
loop-index-preserved g c = alike_more c.args.image.now c.args.other.now c.loop-index.index c.loop-index.invariant (c.is_named_alike.ensures c.if-not-is_named_alike.false)
