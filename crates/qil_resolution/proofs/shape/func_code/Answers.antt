-- The parts of a function are those of its code; that they are short, and few, by hand too, as a search takes seconds to
-- find it.
use Rattle.std.proofs.Common.{◌∙◌, ap, sym, subst, ◌≤◌, length, []}
use Rattle.std.proofs.lemmas.List.{length-map}
use Rattle.qil_symbols.specs.Numbers.{recorded}
use Rattle.qil_code.specs.Gather.{labels_in}
use Rattle.qil_code.specs.Numbered.{func_with}
use Rattle.qil_resolution.proofs.Whole.{code-is}
use Rattle.qil_resolution.proofs.shape.func_code.Goals as goal

pub numbered_func-requires-clause-few_temps : goal.numbered_func-requires-clause-few_temps
numbered_func-requires-clause-few_temps g c = subst (λ ts. length ts ≤ 65535) (sym c.in_ok-temps.ensures) c.requires.few_temps

pub numbered_func-requires-clause-few_labels : goal.numbered_func-requires-clause-few_labels
numbered_func-requires-clause-few_labels g c =
    let few = subst (λ n. n ≤ 65535) (sym (length-map c.args.func.now.blocks (λ b. b.label))) c.requires.few_blocks in
    subst (λ ls. length ls ≤ 65535) (sym (c.in_ok-labels.ensures ∙ ap (λ bs. recorded [] (labels_in bs)) c.as_slice.ensures ∙ c.requires.labels)) few

pub numbered_func-requires-clause-labels : goal.numbered_func-requires-clause-labels
numbered_func-requires-clause-labels g c = c.in_ok-labels.ensures ∙ ap (λ bs. recorded [] (labels_in bs)) c.as_slice.ensures ∙ c.requires.labels

pub returns-clause-code : goal.returns-clause-code
returns-clause-code g c =
    code-is c.args.image.now c.args.func.now c.in_ok-code.code c.in_ok-kept_temps.kept_temps c.in_ok-kept_labels.kept_labels
    (c.in_ok-kept_temps.ensures ∙ c.in_ok-temps.ensures)
    (c.in_ok-kept_labels.ensures ∙ c.in_ok-labels.ensures ∙ ap (λ bs. recorded [] (labels_in bs)) c.as_slice.ensures ∙ c.requires.labels)
    (c.in_ok-code.ensures.code ∙ ap (λ ts. func_with c.args.image.now c.args.func.now ts) (sym c.in_ok-kept_temps.ensures))

pub returns-clause-short : goal.returns-clause-short
returns-clause-short g c = c.in_ok-code.ensures.short
