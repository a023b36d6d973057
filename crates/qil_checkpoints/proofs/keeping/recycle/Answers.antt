-- One copy less.
use Rattle.qil_checkpoints.proofs.Choices.{still-forgot}
use Rattle.qil_checkpoints.proofs.keeping.recycle.Goals as goal

pub returns-clause-kept : goal.returns-clause-kept
returns-clause-kept g c = λ pokes n is.
    still-forgot (g.M.HasCopies.present c.args.machine.now).program (g.M.HasCopies.kept c.args.machine.now) (g.M.HasCopies.kept c.forget.new.self) c.args.positions.now.items c.remove.new.self.items pokes n c.args.index c.requires.later
    c.forget.ensures.kept c.remove.ensures.items is
