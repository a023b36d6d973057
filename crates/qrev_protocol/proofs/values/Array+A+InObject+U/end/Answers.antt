use Rattle.qrev_protocol.proofs.Open.{array_ended}
use Rattle.qrev_protocol.proofs.values.Array+A+InObject+U.end.Goals as goal

pub invariant_of-result-clause-begun : goal.invariant_of-result-clause-begun
invariant_of-result-clause-begun g c = array_ended g.U.Surrounding.leads c.args.self.out.tokens c.end_array.new.self.tokens c.args.self.begun c.in_ok-end_array.ensures.ok
