use Rattle.std.proofs.Common.{◌≡◌, ◌∙◌, ap, ◌++◌, ◌∷◌, [], sym}
use Rattle.json.specs.Token.{key}
use Rattle.json.specs.Token as token
use Rattle.qrev_protocol.specs.Open.{LeadsToMember}
use Rattle.qrev_protocol.proofs.Open.{array_begun, named}
use Rattle.qrev_protocol.proofs.values.Object.array.Goals as goal

pub invariant_of-result-clause-begun : goal.invariant_of-result-clause-begun
invariant_of-result-clause-begun g c =
    array_begun (LeadsToMember g.U.Surrounding.leads) (c.args.self.out.tokens ++ key c.args.name.now ∷ []) c.begin_array.new.self.tokens
    (named g.U.Surrounding.leads c.args.self.out.tokens c.args.name.now c.args.self.begun)
    (c.in_ok-begin_array.ensures.ok ∙ ap (λ ts. ts ++ token.begin_array ∷ []) c.in_ok-key.ensures.ok)
