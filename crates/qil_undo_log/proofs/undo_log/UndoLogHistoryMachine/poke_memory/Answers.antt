use Rattle.qil_undo_log.proofs.undo_log.UndoLogHistoryMachine.poke_memory.Goals as goal

pub returns-clause-ok : goal.returns-clause-ok
returns-clause-ok g c = c.poke.ensures.ok
