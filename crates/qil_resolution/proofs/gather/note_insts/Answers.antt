-- One instruction more.
use Rattle.qil_semantics.specs.Names.{inst_names}
use Rattle.qil_resolution.proofs.OneMore.{one_more}
use Rattle.qil_resolution.proofs.gather.note_insts.Goals as goal

pub loop-inst-preserved : goal.loop-inst-preserved
loop-inst-preserved g c = one_more inst_names c.args.insts.now c.loop-inst.inst-index c.inst-item.result _ _ _ c.loop-inst-test.true c.inst-item.is c.in_ok-note_inst.ensures c.loop-inst.invariant
