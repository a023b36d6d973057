-- A poke of a temporary is a move.
use Rattle.std.proofs.Common.{refl, rules}
use Rattle.qil_machine.proofs.PokingTemps.{temp_made}
use Rattle.qil_machine.proofs.PokingSlots.{slot_set, slot_refused}
use Rattle.qil_machine.proofs.machine.Machine.poke_temp.Goals as goal

pub returns-clause-made : goal.returns-clause-made
returns-clause-made g c =
    temp_made _ c.args.self.now _ c.poked_slot.result c.set-old.new.self c.args.slot c.in_ok-class.class c.args.value c.unary.result _
    c.self.view_is c.self.invariant c.in_ok-class.ensures.class c.unary.ensures.value c.set-old.ensures.new c.set-old.ensures.old c.poked_slot.ensures refl

pub returns-clause-by_slot : goal.returns-clause-by_slot
returns-clause-by_slot g c =
    slot_set _ c.args.self.now c.set-old.new.self c.args.slot c.in_ok-class.class c.args.value c.unary.result c.self.view_is c.self.invariant c.in_ok-class.ensures.class c.in_ok-class.ensures.names
    c.unary.ensures.value c.set-old.ensures.new

pub returns-in_err-class-clause-refuses : goal.returns-in_err-class-clause-refuses
returns-in_err-class-clause-refuses g c =
    let h = slot_refused c.args.self.now c.args.slot c.args.value c.in_err-class.field-0.0 c.in_err-class.ensures.names c.in_err-class.ensures.why in search rules
