-- The name is refused as the machine inside refuses it.
use Rattle.std.proofs.Common.{subst, ℕ}
use Rattle.std.specs.Prelude.{IfErr}
use Rattle.qil_machine.specs.Pokes.{RefusesName}
use Rattle.qil_state.specs.State.{Whole}
use Rattle.qil_flatmachine.proofs.copied.ReplayingRestorableCode.slot_named.Goals as goal

pub returns-clause-why : goal.returns-clause-why
returns-clause-why g c = subst (λ (w : Whole _). (value : ℕ) → IfErr c.slot_named.result (RefusesName w c.args.name.now value)) c.machine_of.ensures c.slot_named.ensures.why
