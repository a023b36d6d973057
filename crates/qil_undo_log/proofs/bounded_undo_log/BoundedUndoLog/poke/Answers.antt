-- A poke is a move of the bounded log.
use Rattle.std.proofs.Common.{ap, sym, ◌∙◌}
use Rattle.qil_state.specs.State.{state_of}
use Rattle.qil_undo_log.specs.Kept.{Recent}
use Rattle.qil_history.specs.Pokes.{poke_of, poke_cost}
use Rattle.qil_undo_log.proofs.BoundedLogLemmas.{pokes_on, stays_recent}
use Rattle.qil_undo_log.proofs.WeightLemmas.{adds_at_most}
use Rattle.qil_undo_log.proofs.bounded_undo_log.BoundedUndoLog.poke.Goals as goal

pub invariant_of-self-2 : goal.invariant_of-self-2
invariant_of-self-2 g c =
    stays_recent c.self.inside.machine c.apply_poke.new.machine c.self.inside.newest.records.items c.in_ok-undo_record.undo_record c.self.inside.newest.forgotten c.self.inside.newest.records.capacity c.keep.new.self.forgotten c.keep.new.self.records c.args.self.now
    c.self.view_is c.self.invariant c.in_ok-undo_record.ensures.made c.keep.ensures.kept c.keep.ensures.counted c.requires.before

pub returns-clause-ok : goal.returns-clause-ok
returns-clause-ok g c =
    let A = g.row.A.Denot in
    let now = c.args.self.now in
    let same = ap (λ (k : Recent A). poke_of k.machine.program (state_of k.machine) c.args.poke) c.self.view_is in
    pokes_on c.self.inside.machine c.apply_poke.new.machine c.self.inside.newest.records.items c.in_ok-undo_record.undo_record c.self.inside.newest.forgotten c.self.inside.newest.records.capacity c.keep.new.self.forgotten c.keep.new.self.records now
    (poke_of now.machine.program (state_of now.machine) c.args.poke) c.self.view_is c.in_ok-undo_record.ensures.made c.keep.ensures.kept c.keep.ensures.counted (sym same ∙ c.in_ok-undo_record.ensures.poke)

pub returns-clause-cost : goal.returns-clause-cost
returns-clause-cost g c =
    adds_at_most c.self.inside.machine c.self.inside.newest.records.items c.in_ok-undo_record.undo_record c.self.inside.newest.forgotten c.self.inside.newest.records.capacity (poke_cost c.args.poke) c.keep.new.self.records c.args.self.now
    c.self.view_is c.keep.ensures.kept c.in_ok-undo_record.ensures.cost
