-- Behind the part that is next more calls are open.
use Rattle.std.proofs.Common.{◌≡◌, ◌≤◌, ◌<◌, ℕ, None}
use Rattle.qil_checkpoints.specs.Held.{first_of}
use Rattle.qil_checkpoints.specs.CallDepths.{shallow_at}
use Rattle.qil_checkpoints.proofs.shallow.search_shallow.Given as goal

abbrev pub invariant-loop-end : goal.invariant-loop-end
invariant-loop-end g l = record {
  program : (g.M.HasCopies.present l.machine).program ≡ (g.M.HasCopies.present l.fn.machine).program;
  kept : g.M.HasCopies.kept l.machine ≡ g.M.HasCopies.kept l.fn.machine;
  under : l.end ≤ l.now;
  none : (j : ℕ) → l.end ≤ j → j < l.now → shallow_at (g.M.HasCopies.present l.fn.machine).program l.most (first_of (g.M.HasCopies.kept l.fn.machine)) l.pokes j ≡ None;
}

abbrev pub decreases-loop-end : goal.decreases-loop-end
decreases-loop-end g l = l.end
