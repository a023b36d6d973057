-- Answers to the goals of `Session::run_to_depth`.
use Rattle.std.proofs.Common.{◌≡◌, ◌+◌, ◌∙◌, ap, arith}
use Rattle.qil_semantics.specs.Timeline.{position}
use Rattle.qil_stops.proofs.OnWay.{moved-position}
use Rattle.qil_session.specs.Kept.{Kept}
use Rattle.qil_session.proofs.session.Session.run_to_depth.Goals as goal

pub returns-clause-near : goal.returns-clause-near
returns-clause-near g c =
    let run = c.run_to_depth.ensures.run in
    let before = g.H.DepthRuns.timeline c.self.inside.history in
    let at : position (g.H.DepthRuns.timeline c.run_to_depth.new.self) ≡ position before + c.run_to_depth.result.1 = ap position run.moves ∙ moved-position _ c.run_to_depth.result.1 before in
    let same : position before ≡ position (g.H.DepthRuns.timeline c.args.self.now.history) = ap (λ (k : Kept g.row.H.Denot). position (g.H.DepthRuns.timeline k.history)) c.self.view_is in
    let few = run.few in
    let limit : c.self.inside.limit ≡ c.args.self.now.limit = ap (λ (k : Kept g.row.H.Denot). k.limit) c.self.view_is in
    omega (arith, at, same, few, limit, c.requires.limit)
