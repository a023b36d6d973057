-- The functions so far have their counters, which are found.
use Rattle.std.proofs.Common.{◌≡◌, length}
use Rattle.std.specs.Prelude.{flat_map}
use Rattle.std.specs.List.{range_with_len}
use Rattle.qil_counts.specs.Counts.{func_places, unmet_all}
use Rattle.qil_counts.specs.Rows.{AreNumbered}
use Rattle.qil_counts.proofs.laying.lay.Given as goal

abbrev pub invariant-loop-number : goal.invariant-loop-number
invariant-loop-number g l = record {
  next : length l.rows.blocks.items ≡ l.number;
  numbered : AreNumbered l.rows.blocks.items l.rows.firsts.items l.rows.counts.items;
  counts : l.rows.counts.items ≡ unmet_all (flat_map (func_places l.code) (range_with_len 0 l.number));
}
