-- All that was read so far has been replied to.
use Rattle.qrev_notices.specs.Reading.{Heard, heard, HasStayed, IsIdle}
use Rattle.qrev_adapter.proofs.session.answer_messages.Given as goal

abbrev pub invariant-loop : goal.invariant-loop
invariant-loop g l =
    (start : Heard) → HasStayed start (heard g.S.Source.remaining g.W.Sink.contents l.fn.line) → IsIdle start (heard g.S.Source.remaining g.W.Sink.contents l.line)
