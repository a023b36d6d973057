-- A byte that wasn't told, or what comes of a run.
use Rattle.std.proofs.Common.{refl}
use Rattle.qil_state.specs.State.{state_of}
use Rattle.qil_compare.proofs.Walking.{next_late, next_run, run_near}
use Rattle.qil_compare.proofs.running.next_event.Goals as goal

pub returns-in-Some-clause-next : goal.returns-in-Some-clause-next
returns-in-Some-clause-next g c =
    let w = g.R.Readers.whole c.args.side.now in
    next_late w.program c.args.other.now c.args.kinds c.args.limit (g.R.Forward.timeline c.args.side.now) c.args.told.now c.in-Some.first w.program (state_of w) refl c.is_read.ensures c.in-Some.ensures

pub returns-clause-next : goal.returns-clause-next
returns-clause-next g c =
    let w = g.R.Readers.whole c.args.side.now in
    next_run w.program c.args.other.now c.args.kinds c.args.limit (g.R.Forward.timeline c.args.side.now) (g.R.Forward.timeline c.run_to_event-found.new.side)
    c.args.told.now c.run_to_event-found.result.1 c.run_to_event-found.result.0 (state_of w) c.is_read.ensures c.in_default.ensures c.run_to_event-found.ensures.run

pub returns-clause-near : goal.returns-clause-near
returns-clause-near g c =
    run_near (g.R.Readers.whole c.args.side.now).program c.args.other.now c.args.kinds c.args.limit (g.R.Forward.timeline c.args.side.now) (g.R.Forward.timeline c.run_to_event-found.new.side)
    c.run_to_event-found.result.1 c.run_to_event-found.result.0 c.run_to_event-found.ensures.run
