-- The names so far, with those that are left, are all.
use Rattle.std.proofs.Common.{◌≡◌, drop}
use Rattle.std.specs.List.{flat_map}
use Rattle.qil_symbols.specs.Numbers.{recorded}
use Rattle.qil_semantics.specs.Names.{block_names}
use Rattle.qil_resolution.proofs.gather.note_blocks.Given as goal

abbrev pub invariant-loop-block : goal.invariant-loop-block
invariant-loop-block g l = recorded l.names (flat_map block_names (drop l.block-index l.blocks)) ≡ recorded l.fn.names (flat_map block_names l.blocks)
