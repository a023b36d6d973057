-- Where there is no room nothing moves, and else the step is the move: by hand, so that another machine is refused at once.
use Rattle.qil_undo_log.proofs.KeptLemmas.{kept_moves, steps_kept, steps_weigh}
use Rattle.qil_undo_log.proofs.undo_log.UndoLogHistoryMachine.forward.Goals as goal

pub returns-then-is_err-clause-err : goal.returns-then-is_err-clause-err
returns-then-is_err-clause-err g c = kept_moves c.self.inside.machine _ _ _ c.reserve.ensures.items c.self.view_is

pub returns-clause-ok : goal.returns-clause-ok
returns-clause-ok g c =
    steps_kept c.advance_into.result c.self.inside.machine c.advance_into.new.self c.reserve.new.self.items c.advance_into.new.into.items c.self.inside.records.items c.args.self.now c.advance_into.ensures.step
    c.advance_into.ensures.made c.reserve.ensures.items c.self.view_is

pub returns-clause-cost : goal.returns-clause-cost
returns-clause-cost g c =
    steps_weigh c.advance_into.result c.self.inside.machine c.reserve.new.self.items c.advance_into.new.into.items c.self.inside.records.items c.args.self.now c.advance_into.ensures.cost
    c.reserve.ensures.items c.self.view_is
