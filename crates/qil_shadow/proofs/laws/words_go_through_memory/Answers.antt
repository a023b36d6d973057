-- By what a value is made of.
use Rattle.qil_shadow.proofs.Meanings.{long_through, low_through}
use Rattle.qil_shadow.proofs.laws.words_go_through_memory.Goals as goal

pub returns-clause-long : goal.returns-clause-long
returns-clause-long c = long_through

pub returns-clause-low : goal.returns-clause-low
returns-clause-low c = low_through
