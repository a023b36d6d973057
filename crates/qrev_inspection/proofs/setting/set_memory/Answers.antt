-- Answers to the goals of `set_memory`.
use Rattle.qrev_inspection.proofs.Exits.{handed_on}
use Rattle.qrev_inspection.proofs.Sets.{memory_is_set, memory_stays}
use Rattle.qrev_inspection.proofs.setting.set_memory.Goals as goal

pub returns-in_err-answer_poke_at-clause-stays : goal.returns-in_err-answer_poke_at-clause-stays
returns-in_err-answer_poke_at-clause-stays g c =
    handed_on c.from_residual-in_err-answer_poke_at.result _ _ c.from_residual-in_err-answer_poke_at.ensures.1 (memory_stays _ _ c.poked-width.result.0.now c.as_bytes.result.now c.args.address c.poked-width.ensures.0 _ c.poked-width.ensures.1 c.in_err-answer_poke_at.ensures.failed)

pub returns-clause-set : goal.returns-clause-set
returns-clause-set g c = memory_is_set _ _ c.poked-width.result.0.now c.as_bytes.result.now c.args.address c.poked-width.ensures.0 _ c.in_ok-answer_poke_at.ensures.done c.poked-width.ensures.1
