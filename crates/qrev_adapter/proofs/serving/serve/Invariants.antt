-- All that was read so far has been replied to.
use Rattle.qrev_notices.specs.Reading.{heard, IsIdle}
use Rattle.qrev_adapter.proofs.serving.serve.Given as goal

abbrev pub invariant-loop : goal.invariant-loop
invariant-loop g l = IsIdle (heard g.S.Source.remaining g.W.Sink.contents l.fn.line) (heard g.S.Source.remaining g.W.Sink.contents l.line)
