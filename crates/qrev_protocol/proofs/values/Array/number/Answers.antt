use Rattle.std.proofs.Common.{decimal}
use Rattle.json.proofs.Printed.Decimals.{IsNumber-decimal}
use Rattle.json.specs.Json as json
use Rattle.qrev_protocol.proofs.Open.{item_added}
use Rattle.qrev_protocol.proofs.values.Array.number.Goals as goal

pub invariant_of-result-clause-begun : goal.invariant_of-result-clause-begun
invariant_of-result-clause-begun g c = item_added g.U.Surrounding.leads c.args.self.out.tokens c.u64.new.self.tokens (json.number (decimal c.args.value)) c.args.self.begun (IsNumber-decimal c.args.value c.ranges.value.fits) c.in_ok-u64.ensures.ok
