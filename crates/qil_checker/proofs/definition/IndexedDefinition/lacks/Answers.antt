-- A text lacks a label that has no first place.
use Rattle.std.proofs.Common.{◌∙◌, sym, refl}
use Rattle.qil_checker.proofs.Texts.Places.{label_absent}
use Rattle.qil_checker.proofs.Texts.Rules.{has_label}
use Rattle.qil_checker.proofs.definition.IndexedDefinition.lacks.Goals as goal

pub returns-in-Some : goal.returns-in-Some
returns-in-Some g c =
    let s = c.args.self.now in
    (λ t. absurd cc, λ lacks. absurd (has_label s.occurrences.items c.args.label.now _ (sym (c.in-Some.ensures ∙ s.label_places c.args.label.now)) lacks))

pub returns-in-None : goal.returns-in-None
returns-in-None g c =
    let s = c.args.self.now in
    (λ t. label_absent s.occurrences.items c.args.label.now (sym (c.in-None.ensures ∙ s.label_places c.args.label.now)), λ lacks. refl)
