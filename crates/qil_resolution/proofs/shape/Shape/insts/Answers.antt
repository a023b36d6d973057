-- One instruction more, and how many there are: by hand, so that a list that is too long is refused at once.
use Rattle.qil_resolution.proofs.Parts.{mapped_more, mapped_all, mapped_within}
use Rattle.qil_resolution.proofs.shape.Shape.insts.Goals as goal

pub loop-inst-preserved : goal.loop-inst-preserved
loop-inst-preserved g c = mapped_more _ _ _ c.inst-item.result c.loop-inst.out.items _ _ _ c.inst-item.is c.loop-inst-test.true c.in_ok-push.ensures.items c.in_ok-inst.ensures c.loop-inst.invariant

pub returns-clause-insts : goal.returns-clause-insts
returns-clause-insts g c = mapped_all _ c.args.insts.now c.loop-inst.inst-index c.loop-inst.out.items c.loop-inst-test.false c.loop-inst.invariant

pub returns-clause-short : goal.returns-clause-short
returns-clause-short g c =
    mapped_within _ c.args.insts.now c.loop-inst.out.items 4294967296 (mapped_all _ c.args.insts.now c.loop-inst.inst-index c.loop-inst.out.items c.loop-inst-test.false c.loop-inst.invariant) c.if-insts-ge-INDEX_LIMIT.false
