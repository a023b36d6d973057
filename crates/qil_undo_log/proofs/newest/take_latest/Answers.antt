-- What is left of the items, and the one that was taken.
use Rattle.qil_undo_log.proofs.BoundedLogLemmas.{taken, none-taken}
use Rattle.qil_undo_log.proofs.newest.take_latest.Goals as goal

pub returns-clause-items : goal.returns-clause-items
returns-clause-items g c = taken c.args.items.now.items c.args.items.now.capacity c.pop_back.new.self c.pop_back.result c.pop_back.ensures.value c.pop_back.ensures.items

pub returns-clause-none : goal.returns-clause-none
returns-clause-none g c = none-taken c.args.items.now.items c.pop_back.result c.pop_back.ensures.value
