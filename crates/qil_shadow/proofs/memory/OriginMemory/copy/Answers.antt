-- One byte after the other is copied.
use Rattle.std.proofs.Common.{arith}
use Rattle.qil_shadow.proofs.CopyLemmas.{copy_none, copy_step, copy_done, spot_in}
use Rattle.qil_shadow.proofs.memory.OriginMemory.copy.Goals as goal

pub loop-index-init : goal.loop-index-init
loop-index-init g c = λ source target apart. copy_none _ _

pub loop-index-preserved : goal.loop-index-preserved
loop-index-preserved g c = λ source target apart.
    copy_step _ _ _ _ _ _ _ _ (c.loop-index.invariant source target apart) apart c.loop-index-test.true (c.get-origin.ensures (spot_in _ _ _ source c.loop-index-test.true))
    (c.set.ensures (spot_in _ _ _ target c.loop-index-test.true))

pub returns : goal.returns
returns g c = λ source target apart. copy_done _ _ _ _ _ _ (omega (arith, c.loop-index-test.false, c.loop-index.auto.index-end)) (c.loop-index.invariant source target apart)
