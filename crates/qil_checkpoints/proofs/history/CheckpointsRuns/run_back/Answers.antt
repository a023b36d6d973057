-- Not behind the end.
use Rattle.std.proofs.Common.{arith}
use Rattle.qil_checkpoints.proofs.HeldLemmas.{held-position}
use Rattle.qil_checkpoints.proofs.history.CheckpointsRuns.run_back.Goals as goal

pub returns-clause-near : goal.returns-clause-near
returns-clause-near g c =
    let before = held-position g.M.HasCopies.present g.M.HasCopies.kept c.args.self.now in
    let after = held-position g.M.HasCopies.present g.M.HasCopies.kept c.back_to_stop.new.self in
    omega (arith, before, after, c.back_to_stop.ensures.near)
