-- Members are added, one after the other.
use Rattle.std.specs.Prelude.{codes}
use Rattle.qrev_notices.proofs.Replies.{named_grows}
use Rattle.qrev_notices.proofs.stopped.add_hits.Goals as goal

pub add_numbers-requires : goal.add_numbers-requires
add_numbers-requires g c = named_grows (codes "stopped") c.args.body.out c.in_ok-list.list.out _ c.in_ok-list.ensures c.requires

pub returns : goal.returns
returns g c = named_grows (codes "stopped") c.in_ok-list-2.list.out c.in_ok-body.body.out _ c.in_ok-body.ensures c.in_ok-list-2.ensures
