-- The counters so far are of the first instructions of the block.
use Rattle.std.proofs.Common.{◌≡◌, ◌++◌}
use Rattle.qil_counts.specs.Counts.{unmet_all}
use Rattle.qil_counts.specs.Rows.{places_at}
use Rattle.qil_counts.proofs.laying.add_places.Given as goal

abbrev pub invariant-loop-index : goal.invariant-loop-index
invariant-loop-index g l = l.counts.items ≡ l.fn.counts.items ++ unmet_all (places_at l.func.index l.block.index l.index)
