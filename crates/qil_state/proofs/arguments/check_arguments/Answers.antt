use Rattle.std.proofs.Common.{◌≡◌, ◌∙◌, sym, ap, Some, None}
use Rattle.qil_state.specs.Values.{argument_values}
use Rattle.qil_state.proofs.Passing.{first_unset, values_unless, arguments_reported, unset_there, none_behind}
use Rattle.qil_state.proofs.arguments.check_arguments.Goals as goal

pub returns-in-Some : goal.returns-in-Some
returns-in-Some g c p ns are =
    let vs = c.args.slots.now in
    let args = c.args.args.now in
    let first : first_unset vs args ≡ Some c.in-Some.slot =
    sym c.loop-one.invariant ∙ unset_there vs args c.loop-one.one-index _ c.in-Some.slot c.loop-one-test.true c.in-Some.ensures in
    ap (values_unless ns (argument_values vs args)) (sym first) ∙ arguments_reported p ns vs args are c.requires

pub returns : goal.returns
returns g c p ns are =
    let vs = c.args.slots.now in
    let args = c.args.args.now in
    let none : first_unset vs args ≡ None = sym c.loop-one.invariant ∙ none_behind vs args c.loop-one.one-index c.loop-one-test.false in
    ap (values_unless ns (argument_values vs args)) (sym none) ∙ arguments_reported p ns vs args are c.requires
