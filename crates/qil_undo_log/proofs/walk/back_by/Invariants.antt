-- The moves so far, as a run back without stops makes them.
use Rattle.std.proofs.Common.{◌≡◌, []}
use Rattle.qil_stops.proofs.BackWay.{IsBackWay}
use Rattle.qil_undo_log.proofs.walk.back_by.Given as goal

abbrev pub invariant-loop-taken : goal.invariant-loop-taken
invariant-loop-taken g l = record {
  program : g.H.History.program l.history ≡ g.H.History.program l.fn.history;
  way : IsBackWay [] (g.H.History.timeline l.fn.history) l.taken (g.H.History.timeline l.history);
}
