-- The moves so far, after none of which the run was to stop.
use Rattle.std.proofs.Common.{◌≡◌, []}
use Rattle.qil_stops.proofs.OnWay.{IsOnWay}
use Rattle.qil_stops.proofs.running.run_freely.Given as goal

abbrev pub invariant-loop-made : goal.invariant-loop-made
invariant-loop-made g l = record {
  program : g.H.History.program l.history ≡ g.H.History.program l.fn.history;
  way : IsOnWay (g.H.History.program l.fn.history) [] (g.H.History.timeline l.fn.history) l.made (g.H.History.timeline l.history);
}
