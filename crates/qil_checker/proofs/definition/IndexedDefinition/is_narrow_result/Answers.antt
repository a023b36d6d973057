-- A result that is always long stands at the place as a word.
use Rattle.std.proofs.Common.{◌≡◌, rules, refl}
use Rattle.qil_tree.specs.declared.ops.Class.TheVariants as classes
use Rattle.qil_rules.specs.declared.occurrence.OccurrenceKind.TheVariants.{Long}
use Rattle.qil_checker.proofs.Texts.Places.{occurrence_stands}
use Rattle.qil_checker.proofs.definition.IndexedDefinition.is_narrow_result.Goals as goal

pub returns-in-Long-W : goal.returns-in-Long-W
returns-in-Long-W g c =
    let is : c.args.occurrence.now.what ≡ Long classes.W = search rules in
    (λ e. occurrence_stands c.args.self.now.occurrences.items c.args.place c.args.occurrence.now (Long classes.W) c.requires is, λ r. refl)
