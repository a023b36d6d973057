use Rattle.std.proofs.Common.{decimal}
use Rattle.json.proofs.Printed.Decimals.{IsNumber-decimal}
use Rattle.json.specs.Token.{key}
use Rattle.json.specs.Token as token
use Rattle.json.specs.Json as json
use Rattle.qrev_protocol.proofs.Open.{member_added, joined}
use Rattle.qrev_protocol.proofs.values.Object.number.Goals as goal

pub invariant_of-result-clause-begun : goal.invariant_of-result-clause-begun
invariant_of-result-clause-begun g c =
    member_added g.U.Surrounding.leads c.args.self.out.tokens c.u64.new.self.tokens c.args.name.now (json.number (decimal c.args.value)) c.args.self.begun (IsNumber-decimal c.args.value c.ranges.value.fits)
    (joined c.args.self.out.tokens c.key.new.self.tokens c.u64.new.self.tokens (key c.args.name.now) (token.number (decimal c.args.value)) c.in_ok-key.ensures.ok c.in_ok-u64.ensures.ok)
