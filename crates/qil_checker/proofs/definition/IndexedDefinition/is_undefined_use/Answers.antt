-- A use is undefined exactly if its temporary has no class.
use Rattle.qil_checker.proofs.Texts.Rules.{undefined_use}
use Rattle.qil_checker.proofs.definition.IndexedDefinition.is_undefined_use.Goals as goal

pub returns-in-Uses : goal.returns-in-Uses
returns-in-Uses g c =
    undefined_use c.args.self.now.occurrences.items c.in-Uses.name c.in-Uses.field-1 c.args.place c.args.occurrence.now c.class_of.result c.is_none.result c.requires c.in-Uses.is c.class_of.ensures c.is_none.ensures
