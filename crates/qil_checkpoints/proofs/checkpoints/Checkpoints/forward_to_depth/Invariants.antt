-- The moves so far, after none of which the run was to stop, nor so few calls were open.
use Rattle.std.proofs.Common.{◌≡◌, ◌≤◌, ◌+◌, length}
use Rattle.qil_semantics.specs.Timeline.{moved}
use Rattle.qil_stops.specs.Named.{named_stops}
use Rattle.qil_stops.specs.Readings.{AllTell}
use Rattle.qil_stops.proofs.OnWay.{IsOnWay}
use Rattle.qil_stops.proofs.Walking.{AreDeep}
use Rattle.qil_checkpoints.specs.Held.{held_timeline}
use Rattle.qil_checkpoints.proofs.checkpoints.Checkpoints.forward_to_depth.Given as goal

abbrev pub invariant-loop-moves : goal.invariant-loop-moves
invariant-loop-moves g l = record {
  program : (g.M.HasCopies.present l.self.machine).program ≡ (g.M.HasCopies.present l.fn.self.machine).program;
  within : l.moves ≤ l.limit;
  position : l.self.position ≤ l.fn.self.position + l.moves;
  way : IsOnWay (g.M.HasCopies.present l.fn.self.machine).program (named_stops (g.M.HasCopies.present l.fn.self.machine).program l.stops) (held_timeline g.M.HasCopies.present g.M.HasCopies.kept l.fn.self) l.moves
      (held_timeline g.M.HasCopies.present g.M.HasCopies.kept l.self);
  deep : AreDeep (λ j. moved (g.M.HasCopies.present l.fn.self.machine).program j (held_timeline g.M.HasCopies.present g.M.HasCopies.kept l.fn.self)) l.most l.moves;
  count : length l.before ≡ length l.stops;
  reported : AllTell (g.M.HasCopies.present l.fn.self.machine).program (held_timeline g.M.HasCopies.present g.M.HasCopies.kept l.self).now l.stops l.before;
}
