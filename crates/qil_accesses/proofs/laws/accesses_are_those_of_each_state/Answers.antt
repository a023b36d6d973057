use Rattle.qil_accesses.proofs.Listed.{listed}
use Rattle.qil_accesses.proofs.laws.accesses_are_those_of_each_state.Goals as goal

pub returns : goal.returns
returns g c = listed
