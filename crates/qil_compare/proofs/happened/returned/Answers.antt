-- A return is told if calls are compared, and the other program has the function.
use Rattle.std.proofs.Common.{◌∙◌, refl, sym, ap, subst}
use Rattle.std.specs.Prelude.{slice_get}
use Rattle.qil_tree.specs.declared.tree.Program.{Program}
use Rattle.qil_code.specs.Numbered.{func_at}
use Rattle.qil_state.specs.State.{state_of, func_name}
use Rattle.qil_compare.specs.Coded.{AreNamedAlike}
use Rattle.qil_compare.specs.Events.{has_func}
use Rattle.qil_compare.proofs.Happening.{if_not, if_so, unasked_return, return_is, told_as, is_off, is_on}
use Rattle.qil_compare.proofs.happened.returned.Goals as goal

pub returns-then-not-kinds : goal.returns-then-not-kinds
returns-then-not-kinds g c = λ due of ahead. unasked_return (g.M.Readers.whole c.args.machine.now).program c.args.other.now c.args.kinds due (is_off c.args.kinds.calls c.if-not-kinds.true)

pub has_like-requires : goal.has_like-requires
has_like-requires g c = subst (λ (q : Program _). AreNamedAlike q c.args.other.now c.args.alike) (sym c.image_of.ensures) c.requires

pub returns-then-not-has_like : goal.returns-then-not-has_like
returns-then-not-has_like g c = λ due of ahead.
    let p = (g.M.Readers.whole c.args.machine.now).program in
    let other = c.args.other.now in
    let id = c.args.before.func in
    return_is p other c.args.kinds (state_of (g.M.Readers.whole c.args.machine.now)) due id c.args.before.ahead (func_name (func_at p id.index)) c.has_like.result _ (is_on c.args.kinds.calls c.if-not-kinds.false) of ahead refl
    (c.has_like.ensures ∙ ap (λ (q : Program _). has_func other (func_name (slice_get q.funcs id.index))) c.image_of.ensures) refl
    ∙ if_not c.has_like.result _ c.if-not-has_like.true

pub returns : goal.returns
returns g c = λ due of ahead.
    let p = (g.M.Readers.whole c.args.machine.now).program in
    let other = c.args.other.now in
    let id = c.args.before.func in
    let s = state_of (g.M.Readers.whole c.args.machine.now) in
    told_as p c.args.kinds s c.told.result _ _
    (return_is p other c.args.kinds s due id c.args.before.ahead (func_name (func_at p id.index)) c.has_like.result c.returned_value.result (is_on c.args.kinds.calls c.if-not-kinds.false) of ahead refl
    (c.has_like.ensures ∙ ap (λ (q : Program _). has_func other (func_name (slice_get q.funcs id.index))) c.image_of.ensures) c.returned_value.ensures
    ∙ if_so c.has_like.result _ c.if-not-has_like.false)
    (c.told.ensures c.args.kinds)
