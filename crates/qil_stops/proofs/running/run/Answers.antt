-- With no stops and with some.
use Rattle.std.proofs.Common.{◌≡◌, subst, List, length}
use Rattle.qil_semantics.specs.Stops.{Numbered}
use Rattle.qil_semantics.specs.Runs.{RunsOn}
use Rattle.qil_stops.proofs.Naming.{named-none, no_length}
use Rattle.qil_stops.proofs.OnWay.{on-near, on-over_already, on-at_once}
use Rattle.qil_stops.proofs.running.run.Goals as goal

pub returns-then-is_empty-clause-run : goal.returns-then-is_empty-clause-run
returns-then-is_empty-clause-run g c =
    let none : length c.args.stops.now ≡ 0 = no_length c.args.stops.now c.is_empty.result c.is_empty.ensures c.if-is_empty.true in
    subst (λ (stops : List Numbered). RunsOn (g.H.History.program c.args.history.now) stops c.args.limit (g.H.History.timeline c.args.history.now) c.run_freely.result.0 c.run_freely.result.1 (g.H.History.timeline c.run_freely.new.history))
    (named-none (g.H.History.program c.args.history.now) c.args.stops.now none) c.run_freely.ensures.run

pub returns-then-is_empty-clause-near : goal.returns-then-is_empty-clause-near
returns-then-is_empty-clause-near g c = on-near _ _ c.args.limit _ _ _ _ c.run_freely.ensures.run

pub returns-then-is_empty-clause-end : goal.returns-then-is_empty-clause-end
returns-then-is_empty-clause-end g c = (λ r. on-over_already _ _ c.args.limit _ _ _ _ c.run_freely.ensures.run r.0 r.1, λ over. on-at_once _ _ c.args.limit _ _ _ _ c.run_freely.ensures.run over)

pub returns-else-is_empty-clause-near : goal.returns-else-is_empty-clause-near
returns-else-is_empty-clause-near g c = on-near _ _ c.args.limit _ _ _ _ c.run_watching.ensures.run

pub returns-else-is_empty-clause-end : goal.returns-else-is_empty-clause-end
returns-else-is_empty-clause-end g c = (λ r. on-over_already _ _ c.args.limit _ _ _ _ c.run_watching.ensures.run r.0 r.1, λ over. on-at_once _ _ c.args.limit _ _ _ _ c.run_watching.ensures.run over)
