-- The new object lies above all others that are living.
use Rattle.std.proofs.Common.{◌≡◌, ap, arith, None}
use Rattle.qil_shadow.specs.declared.object.Object.{Object}
use Rattle.qil_shadow.specs.Table.{of_stack}
use Rattle.qil_shadow.specs.Calls.{LiveCalls}
use Rattle.qil_shadow.proofs.CallLemmas.{live_held, live_made}
use Rattle.qil_shadow.proofs.calls.Calls.make.Goals as goal

pub invariant_of-self-2 : goal.invariant_of-self-2
invariant_of-self-2 g c =
    let top : c.self.inside.top ≡ c.args.self.now.top = ap (λ (l : LiveCalls). l.top) c.self.view_is in
    let object : Object = record { kind = c.args.kind; address = c.args.address; size = c.args.size; made = c.args.made; depth = c.depth-depth.result; ended = None } in
    rw (c.set.ensures, c.in_ok-object.ensures.top)
    (live_held _ _ _ _ _ (live_made c.self.inside.origins (of_stack c.self.inside.objects) c.self.inside.top object c.self.invariant (omega (arith, top, c.requires.above)) c.depth-depth.ensures.count))
