-- The run with the stops of the list is that with the stops.
use Rattle.std.proofs.Common.{subst, List, ◌+◌, ◌≤◌, arith}
use Rattle.qil_stops.specs.declared.stop.NumberedStop.{NumberedStop}
use Rattle.qil_stops.specs.Named.{named_stops}
use Rattle.qil_stops.specs.Depths.{RunsToDepth}
use Rattle.qil_checkpoints.specs.Held.{held_timeline}
use Rattle.qil_checkpoints.proofs.HeldLemmas.{held-position}
use Rattle.qil_checkpoints.proofs.depths.CheckpointsDepthRuns.run_to_depth.Goals as goal

pub forward_to_depth-requires-clause-near : goal.forward_to_depth-requires-clause-near
forward_to_depth-requires-clause-near g c =
    let at = held-position g.M.HasCopies.present g.M.HasCopies.kept c.args.self.now in
    let fits : c.args.self.now.position + c.args.limit ≤ 4611686018427387904 = omega (arith, at, c.requires) in
    fits

pub returns-clause-run : goal.returns-clause-run
returns-clause-run g c =
    let p = (g.M.HasCopies.present c.args.self.now.machine).program in
    subst (λ (kept : List NumberedStop). RunsToDepth p (named_stops p kept) c.args.most c.args.limit (held_timeline g.M.HasCopies.present g.M.HasCopies.kept c.args.self.now)
    c.forward_to_depth.result.0 c.forward_to_depth.result.1 (held_timeline g.M.HasCopies.present g.M.HasCopies.kept c.forward_to_depth.new.self)) c.list.ensures.stops c.forward_to_depth.ensures.run
