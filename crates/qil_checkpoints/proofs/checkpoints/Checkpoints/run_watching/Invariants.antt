-- The moves so far, behind none of which the run was to stop; what is left gets less.
use Rattle.std.proofs.Common.{◌≡◌, ◌+◌, ◌-◌, ◌≤◌, length}
use Rattle.qil_stops.specs.Named.{named_stops}
use Rattle.qil_stops.specs.Readings.{AllTell}
use Rattle.qil_stops.proofs.OnWay.{IsOnWay}
use Rattle.qil_checkpoints.specs.Held.{held_timeline}
use Rattle.qil_checkpoints.proofs.checkpoints.Checkpoints.run_watching.Given as goal

abbrev pub invariant-loop-made : goal.invariant-loop-made
invariant-loop-made g l = record {
  program : (g.M.HasCopies.present l.self.machine).program ≡ (g.M.HasCopies.present l.fn.self.machine).program;
  position : l.self.position ≡ l.fn.self.position + l.made;
  few : l.made ≤ l.limit;
  way : IsOnWay (g.M.HasCopies.present l.fn.self.machine).program (named_stops (g.M.HasCopies.present l.fn.self.machine).program l.stops) (held_timeline g.M.HasCopies.present g.M.HasCopies.kept l.fn.self) l.made
      (held_timeline g.M.HasCopies.present g.M.HasCopies.kept l.self);
  count : length l.before ≡ length l.stops;
  reported : AllTell (g.M.HasCopies.present l.fn.self.machine).program (held_timeline g.M.HasCopies.present g.M.HasCopies.kept l.self).now l.stops l.before;
}

abbrev pub decreases-loop-made : goal.decreases-loop-made
decreases-loop-made g l = l.limit - l.made
