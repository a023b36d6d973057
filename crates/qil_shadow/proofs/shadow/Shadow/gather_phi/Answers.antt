-- What it gets stands behind what the others get.
use Rattle.std.proofs.Common.{◌∙◌, ◌++◌, [], ◌∷◌, ap, refl}
use Rattle.qil_shadow.proofs.PassLemmas.{keeps_gathered}
use Rattle.qil_shadow.proofs.shadow.Shadow.gather_phi.Goals as goal

pub returns-clause-moved : goal.returns-clause-moved
returns-clause-moved g c = λ a at read is.
    c.in_ok-push.ensures.items ∙ ap (λ o. c.args.self.now.moved.items ++ (c.args.one.now.target, o) ∷ []) (c.phi_origin-origin.ensures a at.own at.slots read is)
