-- Each table so far is that of its block.
use Rattle.std.proofs.Common.{◌≡◌, List, ℕ, length, Some}
use Rattle.std.specs.Prelude.{slice_get}
use Rattle.std.specs.Option.{ForSome}
use Rattle.qil_tree.specs.declared.tree.Block.{Block}
use Rattle.qil_symbols.specs.Tables.{values_at}
use Rattle.qil_code.specs.Numbered.{block_moves}
use Rattle.qil_resolution.proofs.shape.moves_of_all.Given as goal

abbrev pub invariant-loop-block : goal.invariant-loop-block
invariant-loop-block g l = record {
  len : length l.out.items ≡ l.block-index;
  moves : (i : ℕ) (b : Block g.row.A.Denot) → slice_get l.blocks i ≡ Some b → ForSome (slice_get l.out.items i) (λ t. (x : List ℕ) → values_at t.lists x ≡ block_moves l.resolver.image.now l.resolver.temps.now x b);
}
