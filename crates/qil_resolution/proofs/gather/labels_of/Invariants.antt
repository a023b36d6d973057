-- The labels so far, with those that are left, are all.
use Rattle.std.proofs.Common.{◌≡◌, drop, []}
use Rattle.qil_symbols.specs.Numbers.{recorded}
use Rattle.qil_code.specs.Gather.{labels_in}
use Rattle.qil_resolution.proofs.gather.labels_of.Given as goal

abbrev pub invariant-loop-block : goal.invariant-loop-block
invariant-loop-block g l = recorded l.names (labels_in (drop l.block-index l.blocks)) ≡ recorded [] (labels_in l.blocks)
