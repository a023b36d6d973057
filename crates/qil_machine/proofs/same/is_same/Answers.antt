-- By hand, so that the test of another status is refused at once.
use Rattle.qil_machine.proofs.Statuses.{status_tested}
use Rattle.qil_machine.proofs.same.is_same.Goals as goal

pub returns : goal.returns
returns c = status_tested c.args.one c.args.other c.eq.result c.eq.ensures
