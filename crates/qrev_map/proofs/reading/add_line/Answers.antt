-- What a line tells is kept.
use Rattle.std.proofs.Common.{arith, ◌+◌, ◌-◌}
use Rattle.qrev_map.proofs.Told.{line_added}
use Rattle.qrev_map.proofs.reading.add_line.Goals as goal

pub returns-in_ok-push-in-Ok-Some-clause-added : goal.returns-in_ok-push-in-Ok-Some-clause-added
returns-in_ok-push-in-Ok-Some-clause-added g c =
    line_added c.args.text.now c.args.start c.args.count (c.args.start + c.args.count - c.args.start) c.in-Ok-Some.told c.args.spans.now.items c.push.new.self.items (omega arith) (rw c.in-Ok-Some.field-0-is at c.in-Ok-Some.ensures.within) (rw c.in-Ok-Some.field-0-is at c.in-Ok-Some.ensures.told)
    c.in_ok-push-in-Ok-Some.ensures.items
