-- One after the other.
use Rattle.std.proofs.Common.{refl, arith}
use Rattle.qil_suspicions.proofs.ByNumber.{one_added, all_added}
use Rattle.qil_suspicions.proofs.pass.note_all.Goals as goal

pub loop-suspicion-init : goal.loop-suspicion-init
loop-suspicion-init g c = refl

pub loop-suspicion-preserved : goal.loop-suspicion-preserved
loop-suspicion-preserved g c =
    one_added c.args.place c.found-suspicion-items.result.now c.loop-suspicion.suspicion-index _ _ c.loop-suspicion.notes _ _ c.loop-suspicion-test.true refl c.in_ok-add.ensures c.loop-suspicion.invariant

pub returns-clause-notes : goal.returns-clause-notes
returns-clause-notes g c = all_added c.args.place _ _ c.loop-suspicion.suspicion-index _ _ (omega (arith, c.loop-suspicion-test.false)) c.found-suspicion-items.ensures c.loop-suspicion.invariant
