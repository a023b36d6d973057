use Rattle.std.proofs.Common.{◌≡◌, ◌∙◌, ap, ◌++◌, ◌∷◌, [], sym}
use Rattle.json.specs.Token.{key}
use Rattle.json.specs.Token as token
use Rattle.qrev_protocol.specs.Open.{LeadsToMember}
use Rattle.qrev_protocol.proofs.Open.{object_begun, named}
use Rattle.qrev_protocol.proofs.values.Object.object.Goals as goal

pub invariant_of-result-clause-begun : goal.invariant_of-result-clause-begun
invariant_of-result-clause-begun g c =
    object_begun (LeadsToMember g.U.Surrounding.leads) (c.args.self.out.tokens ++ key c.args.name.now ∷ []) c.begin_object.new.self.tokens
    (named g.U.Surrounding.leads c.args.self.out.tokens c.args.name.now c.args.self.begun)
    (c.in_ok-begin_object.ensures.ok ∙ ap (λ ts. ts ++ token.begin_object ∷ []) c.in_ok-key.ensures.ok)
