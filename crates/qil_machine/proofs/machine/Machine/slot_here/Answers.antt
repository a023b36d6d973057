-- The slot of a name of the innermost function, and a name that has none.
use Rattle.std.proofs.Common.{refl}
use Rattle.qil_machine.proofs.PokingNames.{slot_named, name_unknown}
use Rattle.qil_machine.proofs.machine.Machine.slot_here.Goals as goal

pub returns-in-Some-clause-slot : goal.returns-in-Some-clause-slot
returns-in-Some-clause-slot g c =
    slot_named _ c.args.self.now c.innermost.result.now c.self.inside.code.now c.func-func.result.index c.in-Some.slot c.args.name.now c.self.view_is c.self.invariant c.innermost.ensures c.func-func.ensures refl
    c.in-Some.ensures.place

pub returns-in-None-clause-why : goal.returns-in-None-clause-why
returns-in-None-clause-why g c = λ value.
    name_unknown _ c.args.self.now c.innermost.result.now c.self.inside.code.now c.func-func.result.index c.args.name.now value c.self.view_is c.self.invariant c.innermost.ensures c.func-func.ensures refl
    c.in-None.ensures.finds c.in-None.ensures.place
