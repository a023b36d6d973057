-- What is living behind the end of a call lies below what was the top before it.
use Rattle.std.proofs.Common.{◌≡◌, ◌∙◌, ap, length}
use Rattle.qil_shadow.specs.Calls.{ended}
use Rattle.qil_shadow.proofs.CallLemmas.{live_return}
use Rattle.qil_shadow.proofs.calls.Calls.give_back.Goals as goal

pub invariant_of-self : goal.invariant_of-self
invariant_of-self g c =
    let end : c.end.new.self ≡ ended (length c.self.inside.origins) c.args.position c.self.inside.objects =
    c.end.ensures ∙ ap (λ d. ended d c.args.position c.self.inside.objects) c.depth-depth.ensures.count in
    rw (c.leave-self-inside.ensures.calls, c.leave-self-inside.ensures.top, end) (live_return c.args.position _ _ c.self.inside.objects _ c.self.invariant)
