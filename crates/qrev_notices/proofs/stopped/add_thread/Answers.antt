-- Members are added.
use Rattle.std.specs.Prelude.{codes}
use Rattle.qrev_notices.proofs.Replies.{named_grows}
use Rattle.qrev_notices.proofs.stopped.add_thread.Goals as goal

pub returns : goal.returns
returns g c =
    let one = named_grows (codes "stopped") c.args.body.out c.in_ok-text.field-0.out _ c.in_ok-text.ensures c.requires in
    let two = named_grows (codes "stopped") c.in_ok-text.field-0.out c.in_ok-number.field-0.out _ c.in_ok-number.ensures one in
    named_grows (codes "stopped") c.in_ok-number.field-0.out c.in_ok-body.body.out _ c.in_ok-body.ensures two
