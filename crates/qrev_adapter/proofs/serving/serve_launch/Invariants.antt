-- The session so far is closed, or another is asked for.
use Rattle.std.proofs.Common.{List}
use Rattle.std.specs.Prelude.{Ok}
use Rattle.qrev_notices.specs.Conversation.{Asked, asked_by}
use Rattle.qrev_notices.specs.Reading.{Heard, heard, IsStaying, IsPending, IsClosed}
use Rattle.qrev_adapter.proofs.serving.serve_launch.Given as goal

abbrev pub invariant-loop : goal.invariant-loop
invariant-loop g l =
    IsStaying (asked_by l.fn.request) → (start : Heard) (before : List Asked) → IsPending start before (asked_by l.fn.request) (heard g.S.Source.remaining g.W.Sink.contents l.fn.line)
    → IsClosed (Ok l.closed) start (heard g.S.Source.remaining g.W.Sink.contents l.line)
