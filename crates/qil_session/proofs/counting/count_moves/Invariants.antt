-- The moves so far were not enough, and the places from which they were made are counted.
use Rattle.std.proofs.Common.{◌≡◌, ℕ}
use Rattle.qil_stops.specs.Listed.{Listed}
use Rattle.qil_replies.specs.SessionState.{session_at}
use Rattle.qil_session.specs.Counted.{IsCounted}
use Rattle.qil_session.proofs.counting.count_moves.Given as goal

abbrev pub invariant-loop : goal.invariant-loop
invariant-loop g l = record {
  program : g.H.Runs.program l.history ≡ g.H.Runs.program l.fn.history;
  way : (stops : Listed) (limit : ℕ)
      → IsCounted (session_at g.H.Runs.wants_memory (g.H.Runs.program l.fn.history) (g.H.Runs.timeline l.fn.history) stops limit) l.counter (g.H.Runs.timeline l.history) l.table;
}
