-- What was told on the way was told by events.
use Rattle.std.specs.Prelude.{Ok}
use Rattle.qrev_notices.specs.Conversation.{spoken, Tells}
use Rattle.qrev_moving.proofs.travelling.run_out.Given as goal

abbrev pub invariant-loop : goal.invariant-loop
invariant-loop g l = Tells (Ok (tt {0})) (spoken g.W.Sink.contents l.fn.port) (spoken g.W.Sink.contents l.port)
