-- One more is set.
use Rattle.std.proofs.Common.{arith}
use Rattle.qil_shadow.proofs.PutLemmas.{put_more, put_all}
use Rattle.qil_shadow.proofs.shadow.put.Goals as goal

pub loop-one-preserved : goal.loop-one-preserved
loop-one-preserved g c = put_more _ _ _ _ _ _ c.loop-one-test.true c.set.ensures c.loop-one.invariant

pub returns : goal.returns
returns g c = put_all c.args.moved.now c.loop-one.one-index c.loop-one.calls _ (omega (arith, c.loop-one-test.false)) c.loop-one.invariant
