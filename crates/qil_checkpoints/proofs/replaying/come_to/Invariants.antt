-- The machine is on its way, and the copies are of the same walk.
use Rattle.std.proofs.Common.{◌≡◌, ◌-◌, ◌≤◌, ℕ, length}
use Rattle.qil_state.specs.State.{state_of}
use Rattle.qil_checkpoints.specs.Walk.{walk}
use Rattle.qil_checkpoints.specs.Held.{first_of, IsKept, StillKept}
use Rattle.qil_checkpoints.proofs.replaying.come_to.Given as goal

abbrev pub invariant-loop-at : goal.invariant-loop-at
invariant-loop-at g l = record {
  length : length (g.M.HasCopies.kept l.machine) ≡ length l.positions.items;
  program : (g.M.HasCopies.present l.machine).program ≡ (g.M.HasCopies.present l.fn.machine).program;
  within : l.at ≤ l.position;
  state : state_of (g.M.HasCopies.present l.machine) ≡ walk (g.M.HasCopies.present l.fn.machine).program (first_of (g.M.HasCopies.kept l.fn.machine)) l.pokes l.at;
  kept : (n : ℕ) → l.position ≤ n → IsKept (g.M.HasCopies.present l.fn.machine).program (g.M.HasCopies.kept l.fn.machine) l.fn.positions.items l.pokes n
      → StillKept (g.M.HasCopies.present l.fn.machine).program (g.M.HasCopies.kept l.fn.machine) (g.M.HasCopies.kept l.machine) l.positions.items l.pokes n;
}

abbrev pub decreases-loop-at : goal.decreases-loop-at
decreases-loop-at g l = l.position - l.at
