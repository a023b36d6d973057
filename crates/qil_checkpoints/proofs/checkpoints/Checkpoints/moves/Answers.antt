-- The timeline is as long as moves were made, and is the walk in other words too.
use Rattle.std.proofs.Common.{sym, ap, ◌∙◌, subst}
use Rattle.qil_semantics.specs.Timeline.{position}
use Rattle.qil_checkpoints.specs.Walk.{IsWalk}
use Rattle.qil_checkpoints.specs.Held.{Held, first_of, held_timeline}
use Rattle.qil_checkpoints.proofs.WalkTimelines.{at-position, timeline-is_walk}
use Rattle.qil_checkpoints.proofs.checkpoints.Checkpoints.moves.Goals as goal

pub returns-clause-timeline : goal.returns-clause-timeline
returns-clause-timeline g c =
    let old = c.self.inside in
    sym (at-position (g.M.HasCopies.present old.machine).program (first_of (g.M.HasCopies.kept old.machine)) old.pokes.items old.position)
    ∙ ap (λ (h : Held g.row.M.Denot). position (held_timeline g.M.HasCopies.present g.M.HasCopies.kept h)) c.self.view_is

pub returns-clause-walk : goal.returns-clause-walk
returns-clause-walk g c =
    let old = c.self.inside in
    subst (λ (h : Held g.row.M.Denot). IsWalk (g.M.HasCopies.present h.machine).program (first_of (g.M.HasCopies.kept h.machine)) h.pokes old.position (held_timeline g.M.HasCopies.present g.M.HasCopies.kept h)) c.self.view_is
    (timeline-is_walk (g.M.HasCopies.present old.machine).program (first_of (g.M.HasCopies.kept old.machine)) old.pokes.items old.position c.self.invariant.is_kept.moves)
