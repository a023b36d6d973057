-- The occurrences so far, and those of the blocks that are left, are all occurrences.
use Rattle.std.proofs.Common.{◌≡◌, ◌++◌, drop}
use Rattle.std.specs.List.{flat_map}
use Rattle.qil_rules.specs.Occurrences.{block_occurrences}
use Rattle.qil_checker.proofs.walk.push_blocks.Given as goal

abbrev pub invariant-loop-block : goal.invariant-loop-block
invariant-loop-block g l = l.out.items ++ flat_map (block_occurrences l.returns) (drop l.block-index l.blocks) ≡ l.fn.out.items ++ flat_map (block_occurrences l.returns) l.blocks
