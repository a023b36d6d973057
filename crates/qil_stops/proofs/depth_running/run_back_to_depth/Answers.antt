-- The run with the stops of the list is that with the stops.
use Rattle.std.proofs.Common.{subst, List}
use Rattle.qil_stops.specs.declared.stop.NumberedStop.{NumberedStop}
use Rattle.qil_stops.specs.Named.{named_stops}
use Rattle.qil_stops.specs.Depths.{RunsBackToDepth}
use Rattle.qil_stops.proofs.depth_running.run_back_to_depth.Goals as goal

pub returns-clause-run : goal.returns-clause-run
returns-clause-run g c =
    let p = g.H.History.program c.args.history.now in
    subst (λ (kept : List NumberedStop). RunsBackToDepth (named_stops p kept) c.args.most c.args.limit (g.H.History.timeline c.args.history.now)
    c.back_to_depth.result.0 c.back_to_depth.result.1 (g.H.History.timeline c.back_to_depth.new.history)) c.list.ensures.stops c.back_to_depth.ensures.run
