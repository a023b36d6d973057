-- The labels that are looked at are those of the phi, and what they are compared with are the predecessors of its block.
use Rattle.std.proofs.Common.{◌∙◌, sym, ap}
use Rattle.qil_symbols.specs.Tables.{kept}
use Rattle.qil_rules.specs.Text.{labels_of}
use Rattle.qil_checker.proofs.Texts.Edges.{answer_is}
use Rattle.qil_checker.proofs.predecessors.are_predecessors.Goals as goal

pub returns-in-Some : goal.returns-in-Some
returns-in-Some g c =
    answer_is c.same_once.result c.args.occurrences.now c.args.block.now (labels_of c.args.sources.now) _ _
    (c.as_slice-in-Some.ensures.value ∙ c.in_ok-labels.ensures ∙ ap labels_of c.as_slice.ensures)
    (c.as_slice-in-Some-2.ensures.value ∙ sym (ap kept c.in-Some.is) ∙ c.requires) c.same_once.ensures

pub returns : goal.returns
returns g c =
    answer_is c.same_once-in-None.result c.args.occurrences.now c.args.block.now (labels_of c.args.sources.now) _ _
    (c.as_slice-in-None.ensures.value ∙ c.in_ok-labels.ensures ∙ ap labels_of c.as_slice.ensures)
    (c.as_slice-in-None-2.ensures.value ∙ c.new-none.ensures.items ∙ sym (ap kept c.in-None.is) ∙ c.requires) c.same_once-in-None.ensures
