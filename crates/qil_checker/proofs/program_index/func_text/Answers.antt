-- Each phi stands in its block.
use Rattle.qil_checker.proofs.Texts.Homes.{func_at_home}
use Rattle.qil_checker.proofs.program_index.func_text.Goals as goal

pub new-requires-2-clause-at_home : goal.new-requires-2-clause-at_home
new-requires-2-clause-at_home g c = func_at_home c.args.func.now c.in_ok-occurrences.occurrences.items c.in_ok-occurrences.ensures
