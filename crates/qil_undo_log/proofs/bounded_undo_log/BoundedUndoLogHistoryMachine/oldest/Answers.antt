-- By hand, so that another position is refused at once.
use Rattle.std.proofs.Common.{ap}
use Rattle.qil_undo_log.proofs.bounded_undo_log.BoundedUndoLogHistoryMachine.oldest.Goals as goal

pub returns : goal.returns
returns g c = ap (λ k. k.forgotten) c.self.view_is
