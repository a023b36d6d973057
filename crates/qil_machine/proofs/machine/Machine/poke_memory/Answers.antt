use Rattle.qil_machine.proofs.KindsWeigh.{poked_weigh}
use Rattle.std.proofs.Common.{refl, arith}
use Rattle.qil_machine.proofs.Poking.{poked_made, poked_state, poked_dead}
use Rattle.qil_machine.proofs.machine.Machine.poke_memory.Goals as goal

pub returns-clause-made : goal.returns-clause-made
returns-clause-made g c = poked_made _ c.args.self.now _ c.args.address _ _ c.self.view_is c.self.invariant c.in-Ok.ensures.top c.in-Ok.ensures.places c.in-Ok.ensures.undo c.poked_bytes.ensures

pub returns-clause-poke : goal.returns-clause-poke
returns-clause-poke g c = poked_state _ c.args.self.now c.args.address c.args.width c.args.number _ c.self.view_is c.in-Ok.ensures.ok c.in-Ok.ensures.top

pub returns-in-Err-clause-dead : goal.returns-in-Err-clause-dead
returns-in-Err-clause-dead g c = (refl, poked_dead _ c.args.self.now c.args.address c.args.width c.args.number c.in-Err.field-0 c.self.view_is c.in-Err.ensures.dead)

pub returns-clause-cost : goal.returns-clause-cost
returns-clause-cost g c = let said = poked_weigh _ c.args.address c.args.width _ c.poked_bytes.ensures in omega (arith, said)
