-- The step of the shadow, and what it found.
use Rattle.std.proofs.Common.{refl, sym}
use Rattle.qil_suspicions.proofs.Beside.{looked_found, nothing_found}
use Rattle.qil_suspicions.proofs.pass.look.Goals as goal

pub returns-then-is_quiet : goal.returns-then-is_quiet
returns-then-is_quiet g c =
    looked_found c.args.machine.now.whole c.code-code.result.now _ _ _ _ _ _ c.code-code.ensures c.names_are_distinct.ensures.finds c.names_are_distinct.ensures.numbers c.in_ok-step_shadow.ensures.machine c.in_ok-step_shadow.ensures.stepped
    c.look_at_text.ensures (λ f at. nothing_found f _ _ (c.is_quiet.ensures c.if-is_quiet.true))

pub returns : goal.returns
returns g c =
    looked_found c.args.machine.now.whole c.code-code.result.now _ _ _ _ _ _ c.code-code.ensures c.names_are_distinct.ensures.finds c.names_are_distinct.ensures.numbers c.in_ok-step_shadow.ensures.machine c.in_ok-step_shadow.ensures.stepped
    c.look_at_text.ensures c.in_ok-note_found.ensures
