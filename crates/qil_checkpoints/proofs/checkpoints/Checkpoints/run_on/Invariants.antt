-- The moves so far, none of them from the end; what is left gets less.
use Rattle.std.proofs.Common.{◌≡◌, ◌+◌, ◌-◌, ◌≤◌}
use Rattle.qil_stops.proofs.Walks.{IsWalked}
use Rattle.qil_checkpoints.specs.Held.{held_timeline}
use Rattle.qil_checkpoints.proofs.checkpoints.Checkpoints.run_on.Given as goal

abbrev pub invariant-loop-made : goal.invariant-loop-made
invariant-loop-made g l = record {
  program : (g.M.HasCopies.present l.self.machine).program ≡ (g.M.HasCopies.present l.fn.self.machine).program;
  position : l.self.position ≡ l.fn.self.position + l.made;
  few : l.made ≤ l.count;
  way : IsWalked (g.M.HasCopies.present l.fn.self.machine).program (held_timeline g.M.HasCopies.present g.M.HasCopies.kept l.fn.self) l.made (held_timeline g.M.HasCopies.present g.M.HasCopies.kept l.self);
}

abbrev pub decreases-loop-made : goal.decreases-loop-made
decreases-loop-made g l = l.count - l.made
