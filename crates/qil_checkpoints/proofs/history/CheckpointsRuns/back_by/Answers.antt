-- As many moves as there are.
use Rattle.std.proofs.Common.{◌-◌, ◌∙◌, ap, ℕ, arith}
use Rattle.qil_checkpoints.specs.Held.{held_timeline}
use Rattle.qil_checkpoints.proofs.HeldLemmas.{held-position, gone-by}
use Rattle.qil_checkpoints.proofs.history.CheckpointsRuns.back_by.Goals as goal

pub returns-clause-near : goal.returns-clause-near
returns-clause-near g c =
    let before = held-position g.M.HasCopies.present g.M.HasCopies.kept c.args.self.now in
    let after = held-position g.M.HasCopies.present g.M.HasCopies.kept c.go_to.new.self in
    omega (arith, before, after, c.go_to.ensures.position, c.saturating_sub.ensures, c.moves.ensures.position)

pub returns-clause-moved : goal.returns-clause-moved
returns-clause-moved g c =
    gone-by g.M.HasCopies.present g.M.HasCopies.kept c.args.self.now c.args.count c.saturating_sub.result (held_timeline g.M.HasCopies.present g.M.HasCopies.kept c.go_to.new.self)
    (c.saturating_sub.ensures ∙ ap (λ (n : ℕ). n - c.args.count) c.moves.ensures.position) c.go_to.ensures.gone
