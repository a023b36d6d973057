-- A call is told if calls are compared, and the other program has the function.
use Rattle.std.proofs.Common.{◌∙◌, refl}
use Rattle.qil_state.specs.State.{state_of}
use Rattle.qil_compare.specs.Events.{call_name}
use Rattle.qil_compare.proofs.Happening.{if_not, if_so, unasked_call, call_is, told_as, is_off, is_on}
use Rattle.qil_compare.proofs.happened.called.Goals as goal

pub returns-then-not-kinds : goal.returns-then-not-kinds
returns-then-not-kinds g c = unasked_call (g.M.Readers.whole c.args.machine.now).program c.args.other.now c.args.kinds (state_of (g.M.Readers.whole c.args.machine.now)) (is_off c.args.kinds.calls c.if-not-kinds.true)

pub returns-then-not-has_called : goal.returns-then-not-has_called
returns-then-not-has_called g c =
    let s = state_of (g.M.Readers.whole c.args.machine.now) in
    call_is (g.M.Readers.whole c.args.machine.now).program c.args.other.now c.args.kinds s (call_name s.frames) c.has_called.result (is_on c.args.kinds.calls c.if-not-kinds.false) refl c.has_called.ensures ∙ if_not c.has_called.result _ c.if-not-has_called.true

pub returns : goal.returns
returns g c =
    let p = (g.M.Readers.whole c.args.machine.now).program in
    let s = state_of (g.M.Readers.whole c.args.machine.now) in
    told_as p c.args.kinds s c.told.result _ _
    (call_is p c.args.other.now c.args.kinds s (call_name s.frames) c.has_called.result (is_on c.args.kinds.calls c.if-not-kinds.false) refl c.has_called.ensures ∙ if_so c.has_called.result _ c.if-not-has_called.false) (c.told.ensures c.args.kinds)
