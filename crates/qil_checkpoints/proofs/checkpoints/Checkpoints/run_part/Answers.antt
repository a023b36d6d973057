-- The steps of the machine are those of the walk.
use Rattle.std.proofs.Common.{refl, sym, ap, ◌∙◌}
use Rattle.qil_semantics.specs.Timeline.{moved, at_end}
use Rattle.qil_checkpoints.specs.Held.{Held, held_timeline}
use Rattle.qil_checkpoints.proofs.HeldLemmas.{held-run, timeline-run, running-run, over-run}
use Rattle.qil_checkpoints.proofs.checkpoints.Checkpoints.run_part.Goals as goal

pub invariant_of-self : goal.invariant_of-self
invariant_of-self g c =
    let old = c.self.inside in
    held-run (g.M.HasCopies.present old.machine) (g.M.HasCopies.present c.run-made.new.self) (g.M.HasCopies.kept old.machine) (g.M.HasCopies.kept c.run-made.new.self) old.positions.items old.pokes.items old.position c.run-made.result
    c.self.invariant c.run-made.ensures.program c.run-made.ensures.kept c.run-made.ensures.steps c.run-made.ensures.running

pub returns-clause-moved : goal.returns-clause-moved
returns-clause-moved g c =
    let old = c.self.inside in
    timeline-run (g.M.HasCopies.present old.machine) (g.M.HasCopies.present c.run-made.new.self).program (g.M.HasCopies.kept old.machine) (g.M.HasCopies.kept c.run-made.new.self) old.positions.items old.pokes.items old.position c.run-made.result
    c.self.invariant c.run-made.ensures.program c.run-made.ensures.kept
    ∙ ap (λ (h : Held g.row.M.Denot). moved (g.M.HasCopies.present h.machine).program c.run-made.result (held_timeline g.M.HasCopies.present g.M.HasCopies.kept h)) c.self.view_is

pub returns-clause-running : goal.returns-clause-running
returns-clause-running g c = λ j lt.
    let old = c.self.inside in
    ap (λ (h : Held g.row.M.Denot). at_end (moved (g.M.HasCopies.present h.machine).program j (held_timeline g.M.HasCopies.present g.M.HasCopies.kept h))) (sym c.self.view_is)
    ∙ running-run (g.M.HasCopies.present old.machine) (g.M.HasCopies.kept old.machine) old.positions.items old.pokes.items old.position j c.self.invariant (c.run-made.ensures.running j lt)

pub returns-clause-over : goal.returns-clause-over
returns-clause-over g c =
    let old = c.self.inside in
    over-run (g.M.HasCopies.present c.run-made.new.self) (g.M.HasCopies.present c.run-made.new.self).program (g.M.HasCopies.kept c.run-made.new.self) old.positions.items old.pokes.items _ c.run-made.result c.args.count
    (invariant_of-self g c) refl c.run-made.ensures.over
