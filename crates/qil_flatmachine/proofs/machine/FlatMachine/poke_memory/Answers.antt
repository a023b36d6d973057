-- Bytes of memory are replaced, and nothing else.
use Rattle.std.proofs.Common.{ap, refl}
use Rattle.qil_machine.proofs.Poking.{poked_dead, poked_state}
use Rattle.qil_flatmachine.specs.Seen.{FlatWhole}
use Rattle.qil_flatmachine.proofs.Replacing.{bytes_poked}
use Rattle.qil_flatmachine.proofs.machine.FlatMachine.poke_memory.Goals as goal

pub invariant_of-self : goal.invariant_of-self
invariant_of-self g c = rw c.in-Err.ensures.err c.self.invariant

pub invariant_of-self-2 : goal.invariant_of-self-2
invariant_of-self-2 g c = bytes_poked _ _ _ _ _ _ _ c.args.address _ c.self.invariant c.in-Ok.ensures.top c.in-Ok.ensures.places c.in-Ok.ensures.undo

pub returns-clause-ok : goal.returns-clause-ok
returns-clause-ok g c = poked_state _ c.args.self.now.whole c.args.address c.args.width c.args.number _ (ap (λ (x : FlatWhole _). x.whole) c.self.view_is) c.in-Ok.ensures.ok c.in-Ok.ensures.top

pub returns-in-Err-clause-dead : goal.returns-in-Err-clause-dead
returns-in-Err-clause-dead g c = (refl, poked_dead _ c.args.self.now.whole c.args.address c.args.width c.args.number c.in-Err.field-0 (ap (λ (x : FlatWhole _). x.whole) c.self.view_is) c.in-Err.ensures.dead)
