-- The text of data has no phi.
use Rattle.qil_checker.proofs.Texts.Homes.{data_at_home}
use Rattle.qil_checker.proofs.program_index.data_text.Goals as goal

pub new-requires-2-clause-at_home : goal.new-requires-2-clause-at_home
new-requires-2-clause-at_home g c = data_at_home c.args.object.now c.in_ok-occurrences.occurrences.items c.in_ok-occurrences.ensures
