use Rattle.std.proofs.Common.{◌≡◌, ◌++◌, ◌∷◌, [], subst}
use Rattle.std.specs.Fmt.{signed_decimal}
use Rattle.std.proofs.Math.Facts.{to_z-of_z}
use Rattle.json.proofs.Printed.Decimals.{IsNumber-signed_decimal}
use Rattle.json.specs.Token.{key}
use Rattle.json.specs.Token as token
use Rattle.json.specs.Json as json
use Rattle.qrev_protocol.proofs.Open.{member_added, joined}
use Rattle.qrev_protocol.proofs.values.Object.signed.Goals as goal

pub invariant_of-result-clause-begun : goal.invariant_of-result-clause-begun
invariant_of-result-clause-begun g c =
    member_added g.U.Surrounding.leads c.args.self.out.tokens c.i64.new.self.tokens c.args.name.now (json.number (signed_decimal c.args.value)) c.args.self.begun (IsNumber-signed_decimal c.args.value c.ranges.value.sfits)
    (joined c.args.self.out.tokens c.key.new.self.tokens c.i64.new.self.tokens (key c.args.name.now) (token.number (signed_decimal c.args.value)) c.in_ok-key.ensures.ok
    (subst (λ z. c.i64.new.self.tokens ≡ c.key.new.self.tokens ++ token.number (signed_decimal z) ∷ []) (to_z-of_z c.ranges.value) c.in_ok-i64.ensures.ok))
