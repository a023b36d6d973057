-- The objects that are left have the same last one that starts at the address or before it.
use Rattle.std.proofs.Common.{◌≡◌, ◌≤◌, length, take, reverse}
use Rattle.std.specs.Prelude.{find}
use Rattle.qil_compare.specs.Seen.{starts_by}
use Rattle.qil_compare.proofs.seen.last_object.Given as goal

abbrev pub invariant-loop-left : goal.invariant-loop-left
invariant-loop-left g l = record {
  inside : l.left ≤ length l.datas;
  so_far : find (starts_by l.image l.address) (reverse (take l.left l.datas)) ≡ find (starts_by l.image l.address) (reverse l.datas);
}

abbrev pub decreases-loop-left : goal.decreases-loop-left
decreases-loop-left g l = l.left
