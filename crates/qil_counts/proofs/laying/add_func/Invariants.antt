-- The blocks so far have their counters, which are found.
use Rattle.std.proofs.Common.{◌≡◌, ◌+◌, ◌≤◌, ◌++◌, ◌∷◌, [], length}
use Rattle.std.specs.Prelude.{flat_map}
use Rattle.std.specs.List.{range_with_len}
use Rattle.qil_code.specs.Numbered.{func_at, block_at}
use Rattle.qil_counts.specs.Counts.{block_count, block_places, unmet_all}
use Rattle.qil_counts.specs.Rows.{AreNumbered}
use Rattle.qil_counts.proofs.laying.add_func.Given as goal

abbrev pub invariant-loop-number : goal.invariant-loop-number
invariant-loop-number g l = record {
  blocks : l.rows.blocks.items ≡ l.fn.rows.blocks.items ++ length l.fn.rows.firsts.items ∷ [];
  firsts : length l.rows.firsts.items ≡ length l.fn.rows.firsts.items + l.number;
  numbered : AreNumbered l.rows.blocks.items l.rows.firsts.items l.rows.counts.items;
  counts : l.rows.counts.items ≡ l.fn.rows.counts.items ++ unmet_all (flat_map (λ b. block_places l.func.index b (block_at l.code l.func.index b)) (range_with_len 0 l.number));
  within : l.number ≤ block_count (func_at l.code l.func.index);
}
