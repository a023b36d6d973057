-- The slot of a name of the innermost function, and a name that has none.
use Rattle.std.proofs.Common.{◌∙◌, ap, refl}
use Rattle.qil_machine.proofs.PokingNames.{name_unknown, slot_named}
use Rattle.qil_flatmachine.specs.Seen.{FlatWhole}
use Rattle.qil_flatmachine.proofs.Replacing.{as_named, machine_now, names_now}
use Rattle.qil_flatmachine.proofs.Viewing.{first_by}
use Rattle.qil_flatmachine.proofs.machine.FlatMachine.slot_named.Goals as goal

pub returns-in-Some-clause-ok : goal.returns-in-Some-clause-ok
returns-in-Some-clause-ok g c = λ value.
    let first = first_by c.args.self.now.whole.frames c.in_ok-func.func.index c.in_ok-func.ensures.func in
    let named = slot_named c.args.self.now.whole c.args.self.now.whole first.0 c.code.result.now c.in_ok-func.func.index c.in-Some.slot c.args.name.now refl (machine_now _ _ _ _ _ _ c.args.self.now c.self.invariant c.self.view_is) first.1 first.2
    (c.code.ensures.code ∙ ap (λ (x : FlatWhole _). x.whole.program) c.self.view_is) c.in-Some.ensures.place in
    as_named c.args.self.now.whole c.in-Some.slot c.args.name.now value (names_now _ _ _ _ _ _ c.args.self.now c.self.invariant c.self.view_is) named.1

pub returns-in-None-clause-why : goal.returns-in-None-clause-why
returns-in-None-clause-why g c = λ value.
    let first = first_by c.args.self.now.whole.frames c.in_ok-func.func.index c.in_ok-func.ensures.func in
    name_unknown c.args.self.now.whole c.args.self.now.whole first.0 c.code.result.now c.in_ok-func.func.index c.args.name.now value refl (machine_now _ _ _ _ _ _ c.args.self.now c.self.invariant c.self.view_is) first.1 first.2
    (c.code.ensures.code ∙ ap (λ (x : FlatWhole _). x.whole.program) c.self.view_is) c.in-None.ensures.finds c.in-None.ensures.place
