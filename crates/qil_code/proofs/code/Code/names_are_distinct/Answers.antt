-- Each block has its own number.
use Rattle.std.proofs.Common.{subst}
use Rattle.qil_code.specs.Facts.{AreNumerable}
use Rattle.qil_code.proofs.EdgesNamed.{numbers_blocks}
use Rattle.qil_code.proofs.code.Code.names_are_distinct.Goals as goal

pub returns-clause-numbers : goal.returns-clause-numbers
returns-clause-numbers g c = numbers_blocks c.args.self.now (subst AreNumerable c.self.view_is c.self.invariant.numerable)
