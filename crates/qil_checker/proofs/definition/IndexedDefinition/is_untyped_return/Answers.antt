-- A value that is returned without a type stands at the place.
use Rattle.std.proofs.Common.{◌≡◌, rules, refl, None}
use Rattle.qil_rules.specs.declared.occurrence.OccurrenceKind.TheVariants.{Returns}
use Rattle.qil_checker.proofs.Texts.Places.{occurrence_stands}
use Rattle.qil_checker.proofs.definition.IndexedDefinition.is_untyped_return.Goals as goal

pub returns-in-Returns-None : goal.returns-in-Returns-None
returns-in-Returns-None g c =
    let is : c.args.occurrence.now.what ≡ Returns None = search rules in
    (λ e. occurrence_stands c.args.self.now.occurrences.items c.args.place c.args.occurrence.now (Returns None) c.requires is, λ r. refl)
