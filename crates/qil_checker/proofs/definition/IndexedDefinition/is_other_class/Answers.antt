-- A definition has another class exactly if the first of its temporary has.
use Rattle.qil_checker.proofs.Texts.Rules.{class_differs}
use Rattle.qil_checker.proofs.definition.IndexedDefinition.is_other_class.Goals as goal

pub returns-in-Some : goal.returns-in-Some
returns-in-Some g c =
    class_differs c.args.self.now.occurrences.items c.in-Defines.name c.in-Defines.class c.in-Some.first c.args.place c.args.occurrence.now c.ne.result c.requires c.in-Defines.is c.in-Some.ensures c.ne.ensures
