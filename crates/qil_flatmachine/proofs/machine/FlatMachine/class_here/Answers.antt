-- The class of a slot of the innermost frame is that by which a poke cuts.
use Rattle.std.proofs.Common.{◌∙◌, ap, refl}
use Rattle.qil_machine.proofs.PokingTemps.{is_of_class, is_unknown}
use Rattle.qil_flatmachine.specs.Seen.{FlatWhole}
use Rattle.qil_flatmachine.proofs.Replacing.{machine_now}
use Rattle.qil_flatmachine.proofs.Viewing.{first_by}
use Rattle.qil_flatmachine.proofs.machine.FlatMachine.class_here.Goals as goal

pub returns-in-Some-clause-class : goal.returns-in-Some-clause-class
returns-in-Some-clause-class g c =
    let first = first_by c.args.self.now.whole.frames c.in_ok-func.func.index c.in_ok-func.ensures.func in
    is_of_class c.args.self.now.whole c.args.self.now.whole first.0 c.code.result.now c.in_ok-func.func.index c.args.slot c.in-Some.class refl (machine_now _ _ _ _ _ _ c.args.self.now c.self.invariant c.self.view_is) first.1 first.2
    (c.code.ensures.code ∙ ap (λ (x : FlatWhole _). x.whole.program) c.self.view_is) c.in-Some.ensures.finds c.in-Some.ensures.code c.in-Some.ensures.defined

pub returns-in-None-clause-why : goal.returns-in-None-clause-why
returns-in-None-clause-why g c =
    let first = first_by c.args.self.now.whole.frames c.in_ok-func.func.index c.in_ok-func.ensures.func in
    is_unknown c.args.self.now.whole c.args.self.now.whole first.0 c.code.result.now c.in_ok-func.func.index c.args.slot.index refl first.1 first.2
    (c.code.ensures.code ∙ ap (λ (x : FlatWhole _). x.whole.program) c.self.view_is) c.in-None.ensures.code
