-- The global that stands there is the one that is looked up.
use Rattle.qil_checker.specs.Whole.{occurrences_of}
use Rattle.qil_checker.proofs.Programs.Names.{lost_global}
use Rattle.qil_checker.proofs.program_index.ProgramIndex.is_lost_global.Goals as goal

pub returns-in-Global : goal.returns-in-Global
returns-in-Global g c =
    lost_global (occurrences_of c.args.self.now.texts.items) c.args.visit.now.text.now.occurrences.items c.args.place c.args.occurrence.now c.in-Global.name c.is_unknown.result c.requires c.in-Global.is c.is_unknown.ensures
