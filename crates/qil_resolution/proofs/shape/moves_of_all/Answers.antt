-- One table more.
use Rattle.std.proofs.Common.{◌≡◌, arith, List, ℕ}
use Rattle.qil_symbols.specs.Tables.{values_at}
use Rattle.qil_code.specs.Numbered.{block_moves}
use Rattle.qil_resolution.proofs.Tables.{one_more}
use Rattle.qil_resolution.proofs.shape.moves_of_all.Goals as goal

pub loop-block-preserved : goal.loop-block-preserved
loop-block-preserved g c = record {
  len = omega (arith, c.in_ok-push.ensures.len, c.loop-block.invariant.len);
  moves = one_more (λ b t. (x : List ℕ) → values_at t.lists x ≡ block_moves c.args.resolver.now.image.now c.args.resolver.now.temps.now x b) c.args.blocks.now c.loop-block.out.items _ _ c.block-item.result c.in_ok-moves_of.field-0
      c.loop-block.invariant.len c.block-item.is c.in_ok-push.ensures.items c.in_ok-moves_of.ensures c.loop-block.invariant.moves;
}
