-- What search would try in vain at first, or for long, is answered here at once: the tables are those of the occurrences.
use Rattle.std.proofs.Common.{arith, ◌∙◌, ap}
use Rattle.std.proofs.lemmas.Grind.{common_steps}
use Rattle.std.specs.List.{count_by}
use borrow.Author.Differences.{ints}
use Rattle.qil_rules.specs.Rules.{is_label}
use Rattle.qil_checker.specs.Tables.{first, is_named, begun_label, predecessors_of}
use Rattle.qil_checker.specs.declared.lookup.TableKind.TheVariants.{Defined, Named, Labels}
use Rattle.qil_checker.proofs.definition.IndexedDefinition.new.Goals as goal

pub returns-in_err-tables : goal.returns-in_err-tables
returns-in_err-tables c = grind (ints, arith, common_steps)

pub invariant_of-result : goal.invariant_of-result
invariant_of-result g c = record {
  name_is = c.requires.begun;
  phis_are = c.requires.at_home;
  first_is = c.first_label-first_label.ensures ∙ ap begun_label c.as_slice-2.ensures.value;
  blocks_are = c.count_blocks-blocks.ensures ∙ ap (count_by is_label) c.as_slice.ensures.value;
  defined_places = λ x. c.in_ok-tables.ensures.defined x ∙ ap (first (is_named Defined x) 0) c.as_slice-3.ensures.value;
  named_places = λ x. c.in_ok-tables.ensures.named x ∙ ap (first (is_named Named x) 0) c.as_slice-3.ensures.value;
  label_places = λ x. c.in_ok-tables.ensures.labels x ∙ ap (first (is_named Labels x) 0) c.as_slice-3.ensures.value;
  predecessor_lists = λ x. c.in_ok-tables.ensures.predecessors x ∙ ap (predecessors_of x) c.as_slice-3.ensures.value;
}

pub returns : goal.returns
returns c = grind (ints, arith, common_steps)
