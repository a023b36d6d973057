-- A slot is set to the value, cut to its class.
use Rattle.std.proofs.Common.{rules}
use Rattle.qil_machine.proofs.PokingSlots.{slot_refused}
use Rattle.qil_flatmachine.proofs.Replacing.{names_now, poked_as, slot_poked}
use Rattle.qil_flatmachine.proofs.machine.FlatMachine.poke_slot.Goals as goal

pub invariant_of-self : goal.invariant_of-self
invariant_of-self g c = slot_poked _ _ _ _ _ _ _ c.args.self.now c.args.slot c.in_ok-class.class c.args.value c.unary.result c.self.invariant c.self.view_is c.in_ok-class.ensures.class c.unary.ensures.value c.set.ensures

pub returns-clause-ok : goal.returns-clause-ok
returns-clause-ok g c = poked_as _ _ _ _ _ _ _ c.args.self.now c.args.slot c.in_ok-class.class c.args.value c.unary.result c.self.invariant c.self.view_is c.in_ok-class.ensures.class c.unary.ensures.value c.set.ensures

pub returns-in_err-class-clause-why : goal.returns-in_err-class-clause-why
returns-in_err-class-clause-why g c =
    let h = slot_refused c.args.self.now.whole c.args.slot c.args.value c.in_err-class.field-0.0 (names_now _ _ _ _ _ _ c.args.self.now c.self.invariant c.self.view_is) c.in_err-class.ensures.why in search rules
