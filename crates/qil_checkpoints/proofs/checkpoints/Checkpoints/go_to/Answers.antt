-- Fewer copies and pokes, and the earlier state.
use Rattle.std.proofs.Common.{ap, ◌∙◌, arith}
use Rattle.qil_semantics.specs.Timeline.{gone}
use Rattle.qil_checkpoints.specs.Held.{Held, held_timeline}
use Rattle.qil_checkpoints.proofs.HeldLemmas.{reached}
use Rattle.qil_checkpoints.proofs.checkpoints.Checkpoints.go_to.Goals as goal

pub go_back-requires : goal.go_back-requires
go_back-requires g c =
    let old = c.self.inside in
    let at = ap (λ (h : Held g.row.M.Denot). h.position) c.self.view_is in
    reached (g.M.HasCopies.present old.machine).program (g.M.HasCopies.kept old.machine) old.positions.items old.pokes.items old.position c.args.position c.self.invariant.is_kept (omega (arith, at, c.requires))

pub returns-clause-gone : goal.returns-clause-gone
returns-clause-gone g c = λ k e.
    let old = c.self.inside in
    let at = ap (λ (h : Held g.row.M.Denot). h.position) c.self.view_is in
    c.go_back.ensures.gone old.position k c.self.invariant.is_kept (omega (arith, at, e))
    ∙ ap (λ (h : Held g.row.M.Denot). gone k (held_timeline g.M.HasCopies.present g.M.HasCopies.kept h)) c.self.view_is
