-- No memory was found for a response.
use Rattle.qrev_notices.specs.Conversation.{asked_by, spoken}
use Rattle.qrev_notices.specs.declared.trouble.Trouble.TheVariants.{OutOfMemory}
use Rattle.qrev_notices.proofs.Replies.{silent}
use Rattle.qrev_adapter.proofs.requests.refuse.Goals as goal

pub returns-in_default-failure : goal.returns-in_default-failure
returns-in_default-failure g c = silent (Unit {0}) OutOfMemory (asked_by c.args.request) (spoken g.W.Sink.contents c.args.port.now)
