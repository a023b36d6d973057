-- A jump leads to the first block exactly if its label is that block's.
use Rattle.qil_checker.proofs.Texts.Rules.{jump_to_first}
use Rattle.qil_checker.proofs.definition.IndexedDefinition.is_jump_to_first.Goals as goal

pub returns-in-Edge : goal.returns-in-Edge
returns-in-Edge g c =
    jump_to_first c.args.self.now.occurrences.items c.in-Edge.field-0 c.in-Edge.label c.args.place c.args.occurrence.now c.is_first.result c.requires c.in-Edge.is c.is_first.ensures
