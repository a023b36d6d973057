use Rattle.qrev_protocol.proofs.Open.{item_ended}
use Rattle.qrev_protocol.proofs.values.Object+A+InArray+U.end_item.Goals as goal

pub invariant_of-result-clause-begun : goal.invariant_of-result-clause-begun
invariant_of-result-clause-begun g c = item_ended g.U.Surrounding.leads c.args.self.out.tokens c.end_object.new.self.tokens c.args.self.begun c.in_ok-end_object.ensures.ok
