-- A number is added.
use Rattle.std.specs.Prelude.{codes}
use Rattle.qrev_notices.proofs.Replies.{named_grows}
use Rattle.qrev_notices.proofs.stopped.add_number.Goals as goal

pub returns : goal.returns
returns g c = named_grows (codes "stopped") c.args.list.out c.in_ok-list.list.out _ c.in_ok-list.ensures c.requires
