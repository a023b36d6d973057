-- The machine's own refusal explains the one by name.
use Rattle.std.proofs.Common.{subst}
use Rattle.std.specs.Prelude.{IfErr}
use Rattle.qil_semantics.specs.State.{State}
use Rattle.qil_semantics.specs.Poke.{poke_temp}
use Rattle.qil_history.specs.Pokes.{Explains}
use Rattle.qil_checkpoints.specs.Held.{Held, held_timeline}
use Rattle.qil_checkpoints.proofs.Refusing.{names-explained}
use Rattle.qil_checkpoints.proofs.checkpoints.Checkpoints.slot_named.Goals as goal

pub returns-clause-why : goal.returns-clause-why
returns-clause-why g c = λ value.
    let w = g.M.HasCopies.present c.self.inside.machine in
    subst (λ (h : Held g.row.M.Denot). IfErr c.slot_named.result (Explains (poke_temp (g.M.HasCopies.present h.machine).program (held_timeline g.M.HasCopies.present g.M.HasCopies.kept h).now c.args.name.now value))) c.self.view_is
    (subst (λ (s : State). IfErr c.slot_named.result (Explains (poke_temp w.program s c.args.name.now value))) c.self.invariant.now (names-explained w c.args.name.now value c.slot_named.result (c.slot_named.ensures.why value)))
