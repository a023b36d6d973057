-- A label that is not at its name's first place comes after another.
use Rattle.std.proofs.Common.{◌∙◌, sym}
use Rattle.qil_checker.proofs.Texts.Rules.{second_label, no_label}
use Rattle.qil_checker.proofs.definition.IndexedDefinition.is_second_label.Goals as goal

pub returns-in-Some : goal.returns-in-Some
returns-in-Some g c =
    let s = c.args.self.now in
    second_label s.occurrences.items c.in-Label.name c.args.place c.in-Some.first c.args.occurrence.now c.requires c.in-Label.is (sym (c.in-Some.ensures ∙ s.label_places c.in-Label.name))

pub returns-in-None : goal.returns-in-None
returns-in-None g c =
    let s = c.args.self.now in
    absurd (no_label s.occurrences.items c.in-Label.name c.args.place c.args.occurrence.now c.requires c.in-Label.is (sym (c.in-None.ensures ∙ s.label_places c.in-Label.name)))
