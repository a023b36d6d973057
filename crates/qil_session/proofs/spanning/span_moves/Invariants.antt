-- The moves so far were not enough, and the frames along them are noted.
use Rattle.std.proofs.Common.{◌≡◌, ℕ, length}
use Rattle.qil_stops.specs.Listed.{Listed}
use Rattle.qil_spans.specs.Table.{IsInnermost}
use Rattle.qil_replies.specs.SessionState.{session_at}
use Rattle.qil_session.specs.Spanned.{IsSpanned}
use Rattle.qil_session.proofs.spanning.span_moves.Given as goal

abbrev pub invariant-loop : goal.invariant-loop
invariant-loop g l = record {
  program : g.H.Runs.program l.history ≡ g.H.Runs.program l.fn.history;
  depth : l.before.depth ≡ length (g.H.Runs.timeline l.history).now.frames;
  func : IsInnermost (g.H.Runs.program l.fn.history) (g.H.Runs.timeline l.history).now l.before.func;
  way : (stops : Listed) (limit : ℕ)
      → IsSpanned (session_at g.H.Runs.wants_memory (g.H.Runs.program l.fn.history) (g.H.Runs.timeline l.fn.history) stops limit) l.least l.counter (g.H.Runs.timeline l.history) l.table;
}
