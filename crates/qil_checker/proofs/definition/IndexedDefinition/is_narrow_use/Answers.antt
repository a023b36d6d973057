-- A word stands where a long is wanted.
use Rattle.std.proofs.Common.{◌≡◌, rules}
use Rattle.qil_tree.specs.declared.ops.Class.TheVariants as classes
use Rattle.qil_rules.specs.declared.occurrence.OccurrenceKind.TheVariants.{Uses}
use Rattle.qil_rules.specs.Text.{FirstClass}
use Rattle.qil_checker.proofs.Texts.Rules.{narrow_use}
use Rattle.qil_checker.proofs.definition.IndexedDefinition.is_narrow_use.Goals as goal

pub returns-in-Some-W : goal.returns-in-Some-W
returns-in-Some-W g c =
    let text = c.args.self.now.occurrences.items in
    let name = c.in-Uses-default-L.name in
    let is : c.args.occurrence.now.what ≡ Uses name classes.L = search rules in
    let first : FirstClass text name classes.W = search rules in
    narrow_use text name c.args.place c.args.occurrence.now c.requires is first
