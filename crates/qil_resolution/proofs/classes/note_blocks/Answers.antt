-- The targets of one block more.
use Rattle.std.proofs.Common.{◌∙◌, ◌+◌, sym, ap, drop}
use Rattle.std.specs.Option.{option_or}
use Rattle.std.specs.List.{flat_map}
use Rattle.qil_symbols.specs.Tables.{value_at}
use Rattle.qil_resolution.specs.Classes.{block_targets, first_class}
use Rattle.qil_resolution.proofs.Defining.{further}
use Rattle.qil_resolution.proofs.Parts.{at_drop}
use Rattle.qil_resolution.proofs.classes.note_blocks.Goals as goal

pub loop-block-preserved : goal.loop-block-preserved
loop-block-preserved g c = λ x.
    let rest = drop (c.loop-block.block-index + 1) c.args.blocks.now in
    let parts = at_drop c.args.blocks.now c.loop-block.block-index c.block-item.result c.block-item.is c.loop-block-test.true in
    further _ _ _ (block_targets c.block-item.result) (flat_map block_targets rest) x (c.in_ok-note_block.ensures x)
    (ap (λ bs. option_or (value_at c.loop-block.table.values x) (first_class (flat_map block_targets bs) x)) (sym parts) ∙ c.loop-block.invariant x)
