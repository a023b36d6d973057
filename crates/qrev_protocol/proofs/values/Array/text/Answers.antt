use Rattle.json.specs.Json as json
use Rattle.qrev_protocol.proofs.Open.{item_added}
use Rattle.qrev_protocol.proofs.values.Array.text.Goals as goal

pub invariant_of-result-clause-begun : goal.invariant_of-result-clause-begun
invariant_of-result-clause-begun g c = item_added g.U.Surrounding.leads c.args.self.out.tokens c.string.new.self.tokens (json.string c.args.value.now) c.args.self.begun tt c.in_ok-string.ensures.ok
