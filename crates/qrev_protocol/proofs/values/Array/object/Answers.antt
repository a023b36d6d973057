use Rattle.qrev_protocol.specs.Open.{IsOpenArray}
use Rattle.qrev_protocol.proofs.Open.{object_begun}
use Rattle.qrev_protocol.proofs.values.Array.object.Goals as goal

pub invariant_of-result-clause-begun : goal.invariant_of-result-clause-begun
invariant_of-result-clause-begun g c = object_begun (IsOpenArray g.U.Surrounding.leads) c.args.self.out.tokens c.begin_object.new.self.tokens c.args.self.begun c.in_ok-begin_object.ensures.ok
