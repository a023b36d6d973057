-- One more is plain.
use Rattle.std.proofs.Common.{arith}
use Rattle.qil_compare.proofs.Stretching.{plain_more}
use Rattle.qil_compare.proofs.ahead.first_other.Goals as goal

pub loop-at-preserved : goal.loop-at-preserved
loop-at-preserved g c =
    plain_more c.args.writes c.args.insts.now c.args.from c.loop-at.at c.index-insts-at.result c.is_plain.result c.loop-at.invariant (omega (arith, c.loop-at-test.true, c.min-end.ensures)) c.index-insts-at.is c.is_plain.ensures
    c.if-not-is_plain.false
