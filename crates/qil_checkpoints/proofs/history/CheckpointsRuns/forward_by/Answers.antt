-- All moves, or the end: memory is never lacking.
use Rattle.std.proofs.Common.{◌+◌, ◌≤◌, arith}
use Rattle.qil_checkpoints.specs.Held.{held_timeline}
use Rattle.qil_checkpoints.proofs.HeldLemmas.{held-position}
use Rattle.qil_checkpoints.proofs.Onward.{forward-all}
use Rattle.qil_checkpoints.proofs.history.CheckpointsRuns.forward_by.Goals as goal

pub run_on-requires : goal.run_on-requires
run_on-requires g c = let at = held-position g.M.HasCopies.present g.M.HasCopies.kept c.args.self.now in
    let fits : c.args.self.now.position + c.args.count ≤ 4611686018427387904 = omega (arith, at, c.requires) in fits

pub returns-clause-near : goal.returns-clause-near
returns-clause-near g c =
    let before = held-position g.M.HasCopies.present g.M.HasCopies.kept c.args.self.now in
    let after = held-position g.M.HasCopies.present g.M.HasCopies.kept c.run_on.new.self in
    omega (arith, before, after, c.run_on.ensures.position, c.run_on.ensures.few)

pub returns-clause-moved : goal.returns-clause-moved
returns-clause-moved g c =
    forward-all (g.M.HasCopies.present c.args.self.now.machine).program c.args.count c.run_on.result (held_timeline g.M.HasCopies.present g.M.HasCopies.kept c.args.self.now)
    (held_timeline g.M.HasCopies.present g.M.HasCopies.kept c.run_on.new.self) c.run_on.ensures.moved c.run_on.ensures.running c.run_on.ensures.few c.run_on.ensures.over
