-- A label begins the next block; no other occurrence does.
use Rattle.std.proofs.Common.{◌∙◌, ap}
use Rattle.qil_symbols.specs.Tables.{kept, values_at}
use Rattle.qil_checker.proofs.Texts.Homes.{at_label, still_at_hand}
use Rattle.qil_checker.proofs.definition.IndexedDefinition.predecessors_behind.Goals as goal

pub returns-in-Label : goal.returns-in-Label
returns-in-Label g c =
    let s = c.args.self.now in
    at_label s.occurrences.items c.args.place c.args.occurrence.now c.in-Label.label (kept c.get.result) c.requires.there c.in-Label.is (c.get.ensures ∙ ap (values_at s.tables.predecessors.lists) c.bytes.ensures ∙ s.predecessor_lists c.in-Label.label)

pub returns-in_default : goal.returns-in_default
returns-in_default g c = still_at_hand c.args.self.now.occurrences.items c.args.place c.args.occurrence.now (kept c.args.predecessors) c.requires.there c.in_default.not-Label c.requires.at_hand
