-- The run with the stops of the list is that with the stops.
use Rattle.std.proofs.Common.{subst, List}
use Rattle.qil_stops.specs.declared.stop.NumberedStop.{NumberedStop}
use Rattle.qil_stops.specs.Named.{named_stops}
use Rattle.qil_stops.specs.Depths.{RunsBackToDepth}
use Rattle.qil_checkpoints.specs.Held.{held_timeline}
use Rattle.qil_checkpoints.proofs.depths.CheckpointsDepthRuns.run_back_to_depth.Goals as goal

pub returns-clause-run : goal.returns-clause-run
returns-clause-run g c =
    let p = (g.M.HasCopies.present c.args.self.now.machine).program in
    subst (λ (kept : List NumberedStop). RunsBackToDepth (named_stops p kept) c.args.most c.args.limit (held_timeline g.M.HasCopies.present g.M.HasCopies.kept c.args.self.now)
    c.back_to_depth.result.0 c.back_to_depth.result.1 (held_timeline g.M.HasCopies.present g.M.HasCopies.kept c.back_to_depth.new.self)) c.list.ensures.stops c.back_to_depth.ensures.run
