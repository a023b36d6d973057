-- One label more, and at the end all: by hand, as a search takes seconds to find each.
use Rattle.qil_code.specs.Gather.{labels_in}
use Rattle.qil_resolution.proofs.OneMore.{one_named, none_left}
use Rattle.qil_resolution.proofs.gather.labels_of.Goals as goal

pub loop-block-preserved : goal.loop-block-preserved
loop-block-preserved g c = one_named (λ b. b.label) c.args.blocks.now c.loop-block.block-index c.block-item.result _ _ _ _ c.loop-block-test.true c.block-item.is c.bytes.ensures c.in_ok-note.ensures c.loop-block.invariant

pub returns : goal.returns
returns g c = none_left (λ bs. labels_in bs) c.args.blocks.now c.loop-block.block-index c.loop-block.names _ c.loop-block-test.false c.loop-block.invariant
