-- The moves so far, after none of which the run was to stop, nor so few calls were open.
use Rattle.std.proofs.Common.{◌≡◌}
use Rattle.qil_semantics.specs.Timeline.{moved}
use Rattle.qil_stops.specs.Named.{named_stops}
use Rattle.qil_stops.specs.Readings.{AllTell}
use Rattle.qil_stops.proofs.OnWay.{IsOnWay}
use Rattle.qil_stops.proofs.Walking.{AreDeep}
use Rattle.qil_stops.proofs.depth_running.forward_to_depth.Given as goal

abbrev pub invariant-loop-moves : goal.invariant-loop-moves
invariant-loop-moves g l = record {
  program : g.H.History.program l.history ≡ g.H.History.program l.fn.history;
  way : IsOnWay (g.H.History.program l.fn.history) (named_stops (g.H.History.program l.fn.history) l.list) (g.H.History.timeline l.fn.history) l.moves (g.H.History.timeline l.history);
  deep : AreDeep (λ j. moved (g.H.History.program l.fn.history) j (g.H.History.timeline l.fn.history)) l.most l.moves;
  reported : AllTell (g.H.History.program l.fn.history) (g.H.History.timeline l.history).now l.list l.before.items;
}
