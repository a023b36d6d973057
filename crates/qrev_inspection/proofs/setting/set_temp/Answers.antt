-- Answers to the goals of `set_temp`.
use Rattle.std.proofs.Common.{◌∙◌, inl, refl}
use Rattle.qrev_inspection.proofs.Exits.{handed_on}
use Rattle.qrev_inspection.proofs.Sets.{temp_is_set, temp_refused, temp_stays}
use Rattle.qrev_inspection.proofs.setting.set_temp.Goals as goal

pub returns-in_err-plain-clause-refused : goal.returns-in_err-plain-clause-refused
returns-in_err-plain-clause-refused g c = handed_on c.from_residual.result _ _ c.from_residual.ensures.1 (λ none is n says few. inl refl)

pub returns-in_err-words-clause-refused : goal.returns-in_err-words-clause-refused
returns-in_err-words-clause-refused g c =
    handed_on c.from_residual-in_err-words.result _ _ c.from_residual-in_err-words.ensures.1 (λ none is n says few. inl (c.in_err-words.ensures.fails (c.temp_in-before.ensures none) n says))

pub returns-in_err-answer_set-clause-stays : goal.returns-in_err-answer_set-clause-stays
returns-in_err-answer_set-clause-stays g c =
    handed_on c.from_residual-in_err-answer_set.result _ _ c.from_residual-in_err-answer_set.ensures.1 (temp_stays _ _ c.as_slice-2.result.now c.as_bytes.result.now _ c.in_err-answer_set.ensures.failed)

pub returns-in_err-answer_set-clause-refused : goal.returns-in_err-answer_set-clause-refused
returns-in_err-answer_set-clause-refused g c =
    handed_on c.from_residual-in_err-answer_set.result _ _ c.from_residual-in_err-answer_set.ensures.1
    (temp_refused _ _ c.args.debuggee.now.names.text.items c.args.name.now c.args.value.now c.as_slice-2.result.now c.as_bytes.result.now c.temp_in-before.result.float _ c.in_err-answer_set.ensures.failed (λ none. c.as_slice-2.ensures.value ∙ c.in_ok-plain.ensures none) c.temp_in-before.ensures
    (λ none n says. c.as_bytes.ensures.value ∙ (c.as_str.ensures.value ∙ c.in_ok-words.ensures.words none n says)))

pub returns-clause-set : goal.returns-clause-set
returns-clause-set g c =
    temp_is_set _ _ _ _ _ c.as_slice-2.result.now c.as_bytes.result.now c.temp_in-before.result.float _ c.in_ok-answer_set.ensures.done (λ none. c.as_slice-2.ensures.value ∙ c.in_ok-plain.ensures none) c.temp_in-before.ensures
    (λ none n says. c.as_bytes.ensures.value ∙ (c.as_str.ensures.value ∙ c.in_ok-words.ensures.words none n says))
