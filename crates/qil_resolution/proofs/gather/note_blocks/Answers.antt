-- One block more.
use Rattle.qil_semantics.specs.Names.{block_names}
use Rattle.qil_resolution.proofs.OneMore.{one_more}
use Rattle.qil_resolution.proofs.gather.note_blocks.Goals as goal

pub loop-block-preserved : goal.loop-block-preserved
loop-block-preserved g c = one_more block_names c.args.blocks.now c.loop-block.block-index c.block-item.result _ _ _ c.loop-block-test.true c.block-item.is c.in_ok-note_block.ensures c.loop-block.invariant
