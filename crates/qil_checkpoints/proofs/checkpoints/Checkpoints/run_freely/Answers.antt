-- All moves, or the end.
use Rattle.std.proofs.Common.{subst}
use Rattle.qil_semantics.specs.Runs.{RunsOn}
use Rattle.qil_semantics.specs.declared.reason.Reason.{Reason}
use Rattle.qil_checkpoints.specs.Held.{held_timeline}
use Rattle.std.proofs.Common.{sym, []}
use Rattle.qil_checkpoints.proofs.Onward.{run-unwatched}
use Rattle.qil_checkpoints.proofs.checkpoints.Checkpoints.run_freely.Goals as goal

pub returns-clause-run : goal.returns-clause-run
returns-clause-run g c =
    let p = (g.M.HasCopies.present c.args.self.now.machine).program in
    let old = held_timeline g.M.HasCopies.present g.M.HasCopies.kept c.args.self.now in
    let new = held_timeline g.M.HasCopies.present g.M.HasCopies.kept c.run_on-made.new.self in
    subst (λ (r : Reason). RunsOn p [] c.args.limit old r c.run_on-made.result new) (sym c.end_or.ensures)
    (run-unwatched p c.args.limit c.run_on-made.result old new c.run_on-made.ensures.moved c.run_on-made.ensures.running c.run_on-made.ensures.few c.run_on-made.ensures.over)
