-- The text begins with what the response has so far.
use Rattle.std.proofs.Common.{ap, ◌∙◌, ◌++◌, ℕ, List}
use Rattle.json.specs.Print.{print}
use Rattle.qrev_notices.proofs.port.response_start.Goals as goal

pub returns : goal.returns
returns g c =
    c.into_inner.ensures.items ∙ ap (λ (v : List ℕ). v ++ print c.in_ok-out.field-0.out.tokens) c.in_ok-out.field-0.alone ∙ ap print c.in_ok-out.ensures
