-- The classes so far, with those of what is left, are all.
use Rattle.std.proofs.Common.{◌≡◌, List, ℕ, drop}
use Rattle.std.specs.Option.{option_or}
use Rattle.std.specs.List.{flat_map}
use Rattle.qil_symbols.specs.Tables.{value_at}
use Rattle.qil_resolution.specs.Classes.{block_targets, first_class}
use Rattle.qil_resolution.proofs.classes.note_blocks.Given as goal

abbrev pub invariant-loop-block : goal.invariant-loop-block
invariant-loop-block g l = (x : List ℕ) → option_or (value_at l.table.values x) (first_class (flat_map block_targets (drop l.block-index l.blocks)) x) ≡ option_or (value_at l.fn.table.values x) (first_class (flat_map block_targets l.blocks) x)
