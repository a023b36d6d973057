-- The steps of the machine are those of the walk, and so is what is read along them.
use Rattle.std.proofs.Common.{refl, sym, ap, ◌∙◌, subst}
use Rattle.qil_semantics.specs.Timeline.{moved, at_end}
use Rattle.qil_stops.specs.Readings.{AllTell}
use Rattle.qil_checkpoints.specs.Held.{Held, held_timeline}
use Rattle.qil_checkpoints.specs.Hits.{IsQuiet}
use Rattle.qil_checkpoints.proofs.HeldLemmas.{held-run, timeline-run, running-run, some-run}
use Rattle.qil_checkpoints.proofs.Quiet.{quiet-run}
use Rattle.qil_checkpoints.proofs.checkpoints.Checkpoints.run_part_quietly.Goals as goal

pub invariant_of-self : goal.invariant_of-self
invariant_of-self g c =
    let old = c.self.inside in
    held-run (g.M.HasCopies.present old.machine) (g.M.HasCopies.present c.run_quietly-made.new.self) (g.M.HasCopies.kept old.machine) (g.M.HasCopies.kept c.run_quietly-made.new.self) old.positions.items old.pokes.items old.position c.run_quietly-made.result
    c.self.invariant c.run_quietly-made.ensures.program c.run_quietly-made.ensures.kept c.run_quietly-made.ensures.steps c.run_quietly-made.ensures.running

pub returns-clause-moved : goal.returns-clause-moved
returns-clause-moved g c =
    let old = c.self.inside in
    timeline-run (g.M.HasCopies.present old.machine) (g.M.HasCopies.present c.run_quietly-made.new.self).program (g.M.HasCopies.kept old.machine) (g.M.HasCopies.kept c.run_quietly-made.new.self) old.positions.items old.pokes.items old.position c.run_quietly-made.result
    c.self.invariant c.run_quietly-made.ensures.program c.run_quietly-made.ensures.kept
    ∙ ap (λ (h : Held g.row.M.Denot). moved (g.M.HasCopies.present h.machine).program c.run_quietly-made.result (held_timeline g.M.HasCopies.present g.M.HasCopies.kept h)) c.self.view_is

pub returns-clause-running : goal.returns-clause-running
returns-clause-running g c = λ j lt.
    let old = c.self.inside in
    ap (λ (h : Held g.row.M.Denot). at_end (moved (g.M.HasCopies.present h.machine).program j (held_timeline g.M.HasCopies.present g.M.HasCopies.kept h))) (sym c.self.view_is)
    ∙ running-run (g.M.HasCopies.present old.machine) (g.M.HasCopies.kept old.machine) old.positions.items old.pokes.items old.position j c.self.invariant (c.run_quietly-made.ensures.running j lt)

pub returns-clause-some : goal.returns-clause-some
returns-clause-some g c = λ none.
    let old = c.self.inside in
    some-run (g.M.HasCopies.present c.run_quietly-made.new.self) (g.M.HasCopies.present c.run_quietly-made.new.self).program (g.M.HasCopies.kept c.run_quietly-made.new.self) old.positions.items old.pokes.items _ c.args.count
    (invariant_of-self g c) refl (c.run_quietly-made.ensures.some none)

pub returns-clause-quiet : goal.returns-clause-quiet
returns-clause-quiet g c =
    let old = c.self.inside in
    let r = c.run_quietly-made.result in
    subst (λ (h : Held g.row.M.Denot). AllTell (g.M.HasCopies.present h.machine).program (held_timeline g.M.HasCopies.present g.M.HasCopies.kept h).now c.args.stops.now c.args.before.now
    → IsQuiet (g.M.HasCopies.present h.machine).program (λ j. (moved (g.M.HasCopies.present h.machine).program j (held_timeline g.M.HasCopies.present g.M.HasCopies.kept h)).now) c.args.stops.now c.args.before.now 0 r) c.self.view_is
    (quiet-run (g.M.HasCopies.present old.machine) (g.M.HasCopies.kept old.machine) old.positions.items old.pokes.items old.position r c.args.stops.now c.args.before.now c.self.invariant
    c.run_quietly-made.ensures.quiet c.run_quietly-made.ensures.unbroken)
