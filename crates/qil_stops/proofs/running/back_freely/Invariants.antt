-- The moves so far, after none of which the run was to stop.
use Rattle.std.proofs.Common.{◌≡◌, []}
use Rattle.qil_stops.proofs.BackWay.{IsBackWay}
use Rattle.qil_stops.proofs.running.back_freely.Given as goal

abbrev pub invariant-loop-gone : goal.invariant-loop-gone
invariant-loop-gone g l = record {
  program : g.H.History.program l.history ≡ g.H.History.program l.fn.history;
  way : IsBackWay [] (g.H.History.timeline l.fn.history) l.gone (g.H.History.timeline l.history);
}
