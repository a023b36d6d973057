-- The latest move is undone.
use Rattle.qil_undo_log.proofs.BoundedLogLemmas.{latest_fits, stays_back, goes_back}
use Rattle.qil_undo_log.proofs.bounded_undo_log.BoundedUndoLogHistoryMachine.back.Goals as goal

pub undo_latest-requires : goal.undo_latest-requires
undo_latest-requires g c =
    latest_fits c.self.inside.machine c.self.inside.machine c.self.inside.newest.records.items c.take_latest.new.items.items c.in-Some.undo_record c.take_latest.result c.self.inside.newest.forgotten c.self.inside.newest.records.capacity c.self.inside.newest.records.capacity
    c.take_latest.ensures.items c.in-Some.is c.self.invariant

pub invariant_of-self : goal.invariant_of-self
invariant_of-self g c =
    stays_back c.self.inside.machine c.undo_latest.new.machine c.self.inside.newest.records.items c.take_latest.new.items.items c.in-Some.undo_record c.take_latest.result c.self.inside.newest.forgotten c.self.inside.newest.records.capacity c.take_latest.new.items.capacity
    c.take_latest.ensures.items c.in-Some.is c.undo_latest.ensures c.take_latest.ensures.capacity c.self.invariant

pub returns-in-Some-clause-ok : goal.returns-in-Some-clause-ok
returns-in-Some-clause-ok g c =
    goes_back c.self.inside.machine c.undo_latest.new.machine c.self.inside.newest.records.items c.take_latest.new.items.items c.in-Some.undo_record c.take_latest.result c.self.inside.newest.forgotten c.self.inside.newest.records.capacity c.take_latest.new.items.capacity
    c.args.self.now c.self.view_is c.take_latest.ensures.items c.in-Some.is c.undo_latest.ensures c.take_latest.ensures.capacity
