-- The class of a slot of the innermost frame is that by which a poke cuts.
use Rattle.std.proofs.Common.{refl}
use Rattle.qil_machine.proofs.PokingTemps.{is_of_class, is_unknown}
use Rattle.qil_machine.proofs.PokingSlots.{has_names}
use Rattle.qil_machine.proofs.machine.Machine.class_here.Goals as goal

pub returns-in-Some-clause-class : goal.returns-in-Some-clause-class
returns-in-Some-clause-class g c =
    is_of_class _ c.args.self.now c.innermost.result.now c.self.inside.code.now c.func-func.result.index c.args.slot c.in-Some.class c.self.view_is c.self.invariant c.innermost.ensures c.func-func.ensures refl
    c.in-Some.ensures.finds c.in-Some.ensures.code c.in-Some.ensures.defined

pub returns-in-None-clause-why : goal.returns-in-None-clause-why
returns-in-None-clause-why g c =
    is_unknown _ c.args.self.now c.innermost.result.now c.self.inside.code.now c.func-func.result.index c.args.slot.index c.self.view_is c.innermost.ensures c.func-func.ensures refl c.in-None.ensures.code

pub returns-in-Some-clause-names : goal.returns-in-Some-clause-names
returns-in-Some-clause-names g c = has_names _ c.args.self.now c.self.inside.code.now c.self.view_is c.self.invariant refl c.in-Some.ensures.finds

pub returns-in-None-clause-names : goal.returns-in-None-clause-names
returns-in-None-clause-names g c = has_names _ c.args.self.now c.self.inside.code.now c.self.view_is c.self.invariant refl c.in-None.ensures.finds
