-- The moves so far, none of them from the end.
use Rattle.std.proofs.Common.{◌≡◌}
use Rattle.qil_stops.proofs.Walks.{IsWalked}
use Rattle.qil_undo_log.proofs.walk.forward_by.Given as goal

abbrev pub invariant-loop-made : goal.invariant-loop-made
invariant-loop-made g l = record {
  program : g.H.History.program l.history ≡ g.H.History.program l.fn.history;
  way : IsWalked (g.H.History.program l.fn.history) (g.H.History.timeline l.fn.history) l.made (g.H.History.timeline l.history);
}
