-- A poke is a move, whose undo record comes after the others.
use Rattle.std.proofs.Common.{ap, sym, ◌∙◌, [], ◌∷◌, ◌++◌}
use Rattle.qil_state.specs.State.{state_of}
use Rattle.qil_undo_log.specs.Kept.{Moved}
use Rattle.qil_history.specs.Pokes.{poke_of, poke_cost}
use Rattle.qil_undo_log.proofs.KeptLemmas.{stays_kept, pokes_kept, adds_weight}
use Rattle.qil_undo_log.proofs.undo_log.UndoLog.poke.Goals as goal

pub invariant_of-self-2 : goal.invariant_of-self-2
invariant_of-self-2 g c =
    let one_more = c.keep.ensures ∙ ap (λ xs. xs ++ c.in_ok-undo_record.undo_record ∷ []) c.reserve.ensures.items in
    stays_kept c.self.inside.machine c.apply_poke.new.machine c.self.inside.records.items c.keep.new.self.items c.in_ok-undo_record.undo_record one_more c.in_ok-undo_record.ensures.made c.self.invariant

pub returns-clause-ok : goal.returns-clause-ok
returns-clause-ok g c =
    let A = g.row.A.Denot in
    let now = c.args.self.now in
    let one_more = c.keep.ensures ∙ ap (λ xs. xs ++ c.in_ok-undo_record.undo_record ∷ []) c.reserve.ensures.items in
    let same = ap (λ (k : Moved A). poke_of k.machine.program (state_of k.machine) c.args.poke) c.self.view_is in
    pokes_kept c.self.inside.machine c.apply_poke.new.machine c.self.inside.records.items c.keep.new.self.items c.in_ok-undo_record.undo_record now
    (poke_of now.machine.program (state_of now.machine) c.args.poke) c.self.view_is one_more c.in_ok-undo_record.ensures.made (sym same ∙ c.in_ok-undo_record.ensures.poke)

pub returns-clause-cost : goal.returns-clause-cost
returns-clause-cost g c =
    let one_more = c.keep.ensures ∙ ap (λ xs. xs ++ c.in_ok-undo_record.undo_record ∷ []) c.reserve.ensures.items in
    adds_weight c.self.inside.machine c.apply_poke.new.machine c.self.inside.records.items c.keep.new.self.items c.in_ok-undo_record.undo_record c.args.self.now (poke_cost c.args.poke)
    c.self.view_is one_more c.in_ok-undo_record.ensures.cost
