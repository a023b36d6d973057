use Rattle.std.proofs.Common.{◌≡◌, ◌∙◌, ap, ◌++◌}
use Rattle.json.specs.Print.{print}
use Rattle.qrev_protocol.proofs.Open.{whole_ended}
use Rattle.qrev_protocol.proofs.values.Object+A+Whole.into_text.Goals as goal

pub returns-clause-json : goal.returns-clause-json
returns-clause-json g c =
    whole_ended c.in_ok-out.field-0.out.tokens c.into_inner.result.items c.in_ok-out.field-0.begun
    (c.into_inner.ensures.items ∙ ap (λ before. before ++ print c.end_object.new.self.tokens) (c.in_ok-end_object.ensures.room.0 ∙ c.in_ok-out.field-0.alone) ∙ ap print c.in_ok-end_object.ensures.ok)
