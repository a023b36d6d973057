use Rattle.std.proofs.Common.{[], ◌∷◌, ◌++◌, ◌∙◌, ap, refl}
use Rattle.json.specs.Token.{begin_object}
use Rattle.qrev_protocol.specs.Open.{LeadsToWhole}
use Rattle.qrev_protocol.proofs.Open.{object_begun}
use Rattle.qrev_protocol.proofs.values.begin_whole.Goals as goal

pub invariant_of-result-clause-begun : goal.invariant_of-result-clause-begun
invariant_of-result-clause-begun g c =
    object_begun LeadsToWhole [] c.begin_object.new.self.tokens refl (c.in_ok-begin_object.ensures.ok ∙ ap (λ ts. ts ++ begin_object ∷ []) c.new-out.ensures.tokens)
