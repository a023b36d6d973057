-- One copy more.
use Rattle.std.proofs.Common.{◌∙◌, sym, ap, List, [], ◌∷◌, ◌++◌, ℕ}
use Rattle.qil_state.specs.State.{state_of}
use Rattle.qil_checkpoints.proofs.Choices.{on-ok, still-pushed}
use Rattle.qil_checkpoints.proofs.keeping.add_copy.Goals as goal

pub returns-clause-kept : goal.returns-clause-kept
returns-clause-kept g c = λ pokes n is le at.
    let old = g.M.HasCopies.present c.args.machine.now in
    still-pushed old.program (g.M.HasCopies.kept c.args.machine.now) (g.M.HasCopies.kept c.keep.new.self) (state_of old) c.args.positions.now.items c.push_reserved.new.self.items pokes n c.args.position
    (on-ok c.keep.result (sym c.if-is_err-2.ensures.value) c.keep.ensures.ok) (c.push_reserved.ensures.items ∙ ap (λ (ks : List ℕ). ks ++ c.args.position ∷ []) c.reserve.ensures.items) is le at
