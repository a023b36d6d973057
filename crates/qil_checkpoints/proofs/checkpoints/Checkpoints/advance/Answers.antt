-- One step of a run of one at the most.
use Rattle.qil_checkpoints.specs.Held.{held_timeline}
use Rattle.qil_checkpoints.proofs.AtDepths.{advances}
use Rattle.qil_checkpoints.proofs.checkpoints.Checkpoints.advance.Goals as goal

pub returns-clause-made : goal.returns-clause-made
returns-clause-made g c =
    advances (g.M.HasCopies.present c.args.self.now.machine).program c.run_part.result (held_timeline g.M.HasCopies.present g.M.HasCopies.kept c.args.self.now) (held_timeline g.M.HasCopies.present g.M.HasCopies.kept c.run_part.new.self)
    c.run_part.ensures.few c.run_part.ensures.moved c.run_part.ensures.running c.run_part.ensures.over
