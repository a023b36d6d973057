-- A phi's label is lost exactly if the text lacks it.
use Rattle.qil_checker.proofs.Texts.Rules.{lost_phi_label}
use Rattle.qil_checker.proofs.definition.IndexedDefinition.is_lost_label.Goals as goal

pub returns-in-PhiLabel : goal.returns-in-PhiLabel
returns-in-PhiLabel g c =
    lost_phi_label c.args.self.now.occurrences.items c.in-PhiLabel.label c.args.place c.args.occurrence.now c.lacks-in-PhiLabel.result c.requires c.in-PhiLabel.is c.lacks-in-PhiLabel.ensures
