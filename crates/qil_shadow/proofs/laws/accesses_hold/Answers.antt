-- Where there is no doubt.
use Rattle.qil_shadow.proofs.Meanings.{undoubted, undoubted_mixed}
use Rattle.qil_shadow.proofs.laws.accesses_hold.Goals as goal

pub returns-clause-meant : goal.returns-clause-meant
returns-clause-meant c = undoubted

pub returns-clause-some : goal.returns-clause-some
returns-clause-some c = undoubted_mixed
