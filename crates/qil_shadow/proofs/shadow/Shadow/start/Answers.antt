-- By its calls and objects.
use Rattle.std.proofs.Common.{◌∙◌, [], ◌∷◌}
use Rattle.qil_shadow.specs.Numbered.{shadow_by}
use Rattle.qil_shadow.proofs.shadow.Shadow.start.Goals as goal

pub returns-clause-start : goal.returns-clause-start
returns-clause-start g c = λ f at.
    (λ i. shadow_by c.args.code.now (c.args.func.index ∷ []) c.in_ok-calls.calls.calls (c.memory.view_is i) c.in_ok-calls.calls.objects.objects 0) ∙ c.in_ok-calls.ensures.start f at
