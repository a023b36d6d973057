-- The copies that are left are of the same walk, and those that were looked at aren't too late.
use Rattle.std.proofs.Common.{◌≡◌, ◌≤◌, ℕ, List, length, drop}
use Rattle.qil_checkpoints.specs.declared.poked.Poked.{Poked}
use Rattle.qil_checkpoints.specs.Held.{AreUpTo, IsKept, StillKept}
use Rattle.qil_checkpoints.proofs.keeping.sift.Given as goal

abbrev pub invariant-loop-index : goal.invariant-loop-index
invariant-loop-index g l = record {
  long : length (g.M.HasCopies.kept l.machine) ≡ length l.positions.items;
  whole : g.M.HasCopies.present l.machine ≡ g.M.HasCopies.present l.fn.machine;
  within : l.index ≤ length l.positions.items;
  last : AreUpTo l.rule.last (drop l.index l.positions.items);
  kept : (pokes : List Poked) (n : ℕ) → IsKept (g.M.HasCopies.present l.fn.machine).program (g.M.HasCopies.kept l.fn.machine) l.fn.positions.items pokes n
      → StillKept (g.M.HasCopies.present l.fn.machine).program (g.M.HasCopies.kept l.fn.machine) (g.M.HasCopies.kept l.machine) l.positions.items pokes n;
}

abbrev pub decreases-loop-index : goal.decreases-loop-index
decreases-loop-index g l = l.index
