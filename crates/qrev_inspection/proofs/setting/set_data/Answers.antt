-- Answers to the goals of `set_data`.
use Rattle.std.proofs.Common.{◌∙◌}
use Rattle.qrev_inspection.proofs.Exits.{handed_on}
use Rattle.qrev_inspection.proofs.Sets.{data_set_by, data_stays}
use Rattle.qrev_inspection.proofs.setting.set_data.Goals as goal

pub returns-in_err-answer_poke-clause-stays : goal.returns-in_err-answer_poke-clause-stays
returns-in_err-answer_poke-clause-stays g c =
    handed_on c.from_residual-in_err-answer_poke.result _ _ c.from_residual-in_err-answer_poke.ensures.1 (data_stays _ _ c.in-Some.letter.now c.without-plain.result.now c.as_bytes.result.now c.in-Some.ensures.1 _ c.in-Some.ensures.2 c.in_err-answer_poke.ensures.failed)

pub returns-in-Some-data_in-clause-set : goal.returns-in-Some-data_in-clause-set
returns-in-Some-data_in-clause-set g c =
    data_set_by _ _ _ _ _ c.without-plain.result.now c.as_bytes.result.now c.in-Some.letter.now c.in-Some.ensures.1 c.in-Some.set.float _ c.in_ok-answer_poke.ensures.done c.without-plain.ensures c.in-Some.ensures.2 c.in-Some.ensures.0
    (λ none n says. c.as_bytes.ensures.value ∙ (c.as_str.ensures.value ∙ c.in_ok-words.ensures.words none n says))

pub returns-clause-set : goal.returns-clause-set
returns-clause-set g c =
    data_set_by _ _ _ _ _ c.without-plain.result.now c.as_bytes.result.now c.in-Some.letter.now c.in-Some.ensures.1 c.in-Some.set.float _ c.in_ok-answer_poke.ensures.done c.without-plain.ensures c.in-Some.ensures.2 c.in-Some.ensures.0
    (λ none n says. c.as_bytes.ensures.value ∙ (c.as_str.ensures.value ∙ c.in_ok-words.ensures.words none n says))
