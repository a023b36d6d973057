-- The copies that are left are of the same walk.
use Rattle.std.proofs.Common.{◌≡◌, ℕ, List, length}
use Rattle.qil_checkpoints.specs.declared.poked.Poked.{Poked}
use Rattle.qil_checkpoints.specs.Held.{IsKept, StillKept}
use Rattle.qil_checkpoints.proofs.keeping.thin.Given as goal

abbrev pub invariant-loop : goal.invariant-loop
invariant-loop g l = record {
  length : length (g.M.HasCopies.kept l.machine) ≡ length l.positions.items;
  whole : g.M.HasCopies.present l.machine ≡ g.M.HasCopies.present l.fn.machine;
  kept : (pokes : List Poked) (n : ℕ) → IsKept (g.M.HasCopies.present l.fn.machine).program (g.M.HasCopies.kept l.fn.machine) l.fn.positions.items pokes n
      → StillKept (g.M.HasCopies.present l.fn.machine).program (g.M.HasCopies.kept l.fn.machine) (g.M.HasCopies.kept l.machine) l.positions.items pokes n;
}
