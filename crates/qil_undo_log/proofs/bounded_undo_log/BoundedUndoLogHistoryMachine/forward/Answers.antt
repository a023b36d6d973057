-- A step is a move of the bounded log; that the machine has a frame more for calls to come changes nothing.
use Rattle.qil_undo_log.proofs.BoundedLogLemmas.{steps_recent, steps_on}
use Rattle.qil_undo_log.proofs.WeightLemmas.{steps_add}
use Rattle.qil_undo_log.proofs.bounded_undo_log.BoundedUndoLogHistoryMachine.forward.Goals as goal

pub invariant_of-self : goal.invariant_of-self
invariant_of-self g c =
    rw c.give_back.ensures (steps_recent (λ n. n.records) (λ n. n.forgotten) c.advance_into-moved.result c.self.inside.machine c.advance_into-moved.new.self c.self.inside.newest c.advance_into-moved.new.into c.args.self.now c.self.view_is c.self.invariant
    c.advance_into-moved.ensures.made c.advance_into-moved.ensures.err c.advance_into-moved.ensures.none c.requires)

pub returns-clause-ok : goal.returns-clause-ok
returns-clause-ok g c =
    rw c.give_back.ensures (steps_on (λ n. n.records) (λ n. n.forgotten) c.advance_into-moved.result c.self.inside.machine c.advance_into-moved.new.self c.self.inside.newest c.advance_into-moved.new.into c.args.self.now c.self.view_is c.advance_into-moved.ensures.step
    c.advance_into-moved.ensures.made)

pub returns-clause-cost : goal.returns-clause-cost
returns-clause-cost g c =
    steps_add (λ n. n.records) (λ n. n.forgotten) c.advance_into-moved.result c.self.inside.machine c.self.inside.newest c.advance_into-moved.new.into c.args.self.now c.self.view_is c.advance_into-moved.ensures.cost
