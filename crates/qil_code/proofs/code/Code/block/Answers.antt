-- The code of a block is at the block's number, and is in range.
use Rattle.std.proofs.Common.{◌∙◌, ap}
use Rattle.std.specs.Prelude.{slice_get}
use Rattle.qil_code.proofs.RangedCode.{block-ranges}
use Rattle.qil_code.proofs.Readers.{coded, blocks-there}
use Rattle.qil_code.proofs.code.Code.block.Goals as goal

pub returns-in-Some-clause-code : goal.returns-in-Some-clause-code
returns-in-Some-clause-code g c =
    c.item_at.ensures ∙ ap (λ bs. slice_get bs c.args.block.index) c.as_slice.ensures
    ∙ blocks-there c.args.self.now c.args.func.index c.args.block.index c.in-Some.found.now (coded _ _ _ c.in-Some.ensures.code)

pub returns-in-Some-clause-range : goal.returns-in-Some-clause-range
returns-in-Some-clause-range g c =
    block-ranges c.args.self.now c.args.func.index c.args.block.index c.in-Some.found.now c.item_at.result c.as_slice.result.now
    (coded _ _ _ c.in-Some.ensures.code) c.in-Some.ensures.range c.as_slice.ensures c.item_at.ensures
