-- The predecessors at hand are those of the phi's block, and the phi is wrong where its labels are others.
use Rattle.std.proofs.Common.{subst, ap, sym, ◌∙◌, IsTrue, ◌↔◌, List}
use Rattle.qil_rules.specs.declared.occurrence.OccurrenceKind.TheVariants.{PhiOf}
use Rattle.qil_rules.specs.declared.occurrence.Occurrence.{Occurrence}
use Rattle.qil_rules.specs.Text.{ArePredecessors, labels_of}
use Rattle.qil_checker.specs.Tables.{predecessors_of}
use Rattle.qil_checker.proofs.Texts.Places.{occurrence_stands}
use Rattle.qil_checker.proofs.Texts.Rules.{wrong_phi}
use Rattle.qil_checker.proofs.definition.IndexedDefinition.is_wrong_phi.Goals as goal

pub are_predecessors-requires : goal.are_predecessors-requires
are_predecessors-requires g c =
    let s = c.args.self.now in
    let stands = occurrence_stands s.occurrences.items c.args.place c.args.occurrence.now (PhiOf c.in-PhiOf.block c.in-PhiOf.sources) c.requires.there c.in-PhiOf.is in
    c.requires.at_hand c.in-PhiOf.block (s.phis_are c.args.place c.in-PhiOf.block c.in-PhiOf.sources stands)
    ∙ ap (predecessors_of c.in-PhiOf.block) (sym c.as_slice-occurrences.ensures.value)

pub returns-in_ok-right-in-PhiOf : goal.returns-in_ok-right-in-PhiOf
returns-in_ok-right-in-PhiOf g c =
    let right = subst (λ (t : List Occurrence). IsTrue c.in_ok-right-in-PhiOf.right ↔ ArePredecessors t c.in-PhiOf.block (labels_of c.in-PhiOf.sources)) c.as_slice-occurrences.ensures.value c.in_ok-right-in-PhiOf.ensures in
    wrong_phi c.args.self.now.occurrences.items c.args.place c.args.occurrence.now c.in-PhiOf.block c.in-PhiOf.sources c.in_ok-right-in-PhiOf.right c.requires.there c.in-PhiOf.is right
