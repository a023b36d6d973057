-- One after the other.
use Rattle.qil_shadow.proofs.CallInstLemmas.{given_calls, given_rest}
use Rattle.qil_shadow.proofs.shadow.Shadow.call_given.Goals as goal

pub returns-clause-calls : goal.returns-clause-calls
returns-clause-calls g c = given_calls c.args.self.now c.call_built_in.new.self c.give_number.new.self c.args.to _ c.call_built_in.ensures c.give_number.ensures.calls

pub returns-clause-rest : goal.returns-clause-rest
returns-clause-rest g c = given_rest c.args.self.now c.call_built_in.new.self c.give_number.new.self c.call_built_in.ensures c.give_number.ensures.rest
