-- The last position at which a stop holds is gone to.
use Rattle.std.proofs.Common.{◌∙◌, sym, ap, subst, ◌-◌}
use Rattle.qil_semantics.specs.Timeline.{gone}
use Rattle.qil_semantics.specs.Runs.{RunsBack}
use Rattle.qil_stops.specs.Named.{named_stops}
use Rattle.qil_checkpoints.specs.Walk.{timeline_at}
use Rattle.qil_checkpoints.specs.Held.{Held, first_of, held_timeline}
use Rattle.qil_checkpoints.proofs.HeldLemmas.{kept-as, timeline-as}
use Rattle.qil_checkpoints.proofs.Hitting.{back-held}
use Rattle.qil_checkpoints.proofs.checkpoints.Checkpoints.back_to_stop.Goals as goal

pub returns-clause-run : goal.returns-clause-run
returns-clause-run g c =
    let old = c.self.inside in
    let p = (g.M.HasCopies.present old.machine).program in
    let kept = g.M.HasCopies.kept old.machine in
    let found = c.search_back-found in
    let hit = c.hit_or_lowest-hit.result in
    let new = timeline_at (g.M.HasCopies.present c.go_back.new.machine).program (first_of (g.M.HasCopies.kept c.go_back.new.machine)) c.go_back.new.pokes.items hit.position in
    let is = kept-as p (g.M.HasCopies.present found.new.machine).program kept (g.M.HasCopies.kept found.new.machine) old.positions.items old.pokes.items old.position (sym found.ensures.program) (sym found.ensures.kept) c.self.invariant.is_kept in
    subst (λ (h : Held g.row.M.Denot). RunsBack (named_stops (g.M.HasCopies.present h.machine).program c.args.stops.now) c.args.limit (held_timeline g.M.HasCopies.present g.M.HasCopies.kept h) hit.reason (old.position - hit.position) new)
    c.self.view_is
    (back-held p (named_stops p c.args.stops.now) (first_of kept) old.pokes.items c.as_slice-2.result.now old.position c.args.limit c.saturating_sub-lowest.result found.result hit new c.saturating_sub-lowest.ensures c.as_slice-2.ensures.value
    found.ensures.hit c.hit_or_lowest-hit.ensures
    (λ k sum. c.go_back.ensures.gone old.position k is sum ∙ ap (gone k) (timeline-as (g.M.HasCopies.present found.new.machine).program p (g.M.HasCopies.kept found.new.machine) kept old.pokes.items old.position found.ensures.program found.ensures.kept)))
