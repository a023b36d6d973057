-- What a slot holds is what its temporary holds.
use Rattle.qil_machine.proofs.Watching.{is_held}
use Rattle.qil_machine.proofs.machine.Machine.value.Goals as goal

pub returns-clause-named : goal.returns-clause-named
returns-clause-named g c = λ name at. is_held _ c.args.self.now c.args.slot name c.get.result c.self.view_is c.self.invariant c.get.ensures at
