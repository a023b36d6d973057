-- With no stops and with some.
use Rattle.std.proofs.Common.{◌≡◌, subst, List, length}
use Rattle.qil_semantics.specs.Stops.{Numbered}
use Rattle.qil_semantics.specs.Runs.{RunsBack}
use Rattle.qil_stops.proofs.Naming.{named-none, no_length}
use Rattle.qil_stops.proofs.BackWay.{back-near, start-already, start-at_once, oldest-already, oldest-at_once}
use Rattle.qil_stops.proofs.running.run_back.Goals as goal

pub returns-then-is_empty-clause-run : goal.returns-then-is_empty-clause-run
returns-then-is_empty-clause-run g c =
    let none : length c.args.stops.now ≡ 0 = no_length c.args.stops.now c.is_empty.result c.is_empty.ensures c.if-is_empty.true in
    subst (λ (stops : List Numbered). RunsBack stops c.args.limit (g.H.History.timeline c.args.history.now) c.back_freely.result.0 c.back_freely.result.1 (g.H.History.timeline c.back_freely.new.history))
    (named-none (g.H.History.program c.args.history.now) c.args.stops.now none) c.back_freely.ensures.run

pub returns-then-is_empty-clause-near : goal.returns-then-is_empty-clause-near
returns-then-is_empty-clause-near g c = back-near _ c.args.limit _ _ _ _ c.back_freely.ensures.run

pub returns-then-is_empty-clause-start : goal.returns-then-is_empty-clause-start
returns-then-is_empty-clause-start g c = (λ r. start-already _ c.args.limit _ _ _ _ c.back_freely.ensures.run r.0 r.1, λ at. start-at_once _ c.args.limit _ _ _ _ c.back_freely.ensures.run at)

pub returns-then-is_empty-clause-oldest : goal.returns-then-is_empty-clause-oldest
returns-then-is_empty-clause-oldest g c = (λ r. oldest-already _ c.args.limit _ _ _ _ c.back_freely.ensures.run r.0 r.1, λ at. oldest-at_once _ c.args.limit _ _ _ _ c.back_freely.ensures.run at.0 at.1)

pub returns-else-is_empty-clause-near : goal.returns-else-is_empty-clause-near
returns-else-is_empty-clause-near g c = back-near _ c.args.limit _ _ _ _ c.back_watching.ensures.run

pub returns-else-is_empty-clause-start : goal.returns-else-is_empty-clause-start
returns-else-is_empty-clause-start g c = (λ r. start-already _ c.args.limit _ _ _ _ c.back_watching.ensures.run r.0 r.1, λ at. start-at_once _ c.args.limit _ _ _ _ c.back_watching.ensures.run at)

pub returns-else-is_empty-clause-oldest : goal.returns-else-is_empty-clause-oldest
returns-else-is_empty-clause-oldest g c = (λ r. oldest-already _ c.args.limit _ _ _ _ c.back_watching.ensures.run r.0 r.1, λ at. oldest-at_once _ c.args.limit _ _ _ _ c.back_watching.ensures.run at.0 at.1)
