-- With no stops nothing can be a breakpoint.
use Rattle.qil_semantics.specs.Targets.{after}
use Rattle.qil_state.specs.State.{state_of}
use Rattle.qil_stops.proofs.Naming.{no_length}
use Rattle.qil_stops.proofs.Unbroken.{unbroken-none}
use Rattle.qil_flatmachine.proofs.restorable.RestorableMachineCopiedMachineFlatMachine.run_quietly.Goals as goal

pub returns-then-is_empty-clause-unbroken : goal.returns-then-is_empty-clause-unbroken
returns-then-is_empty-clause-unbroken g c = λ j some lt.
    let w = c.args.self.now.present.whole in
    unbroken-none w.program (after w.program (state_of w) j) c.args.stops.now (no_length c.args.stops.now c.is_empty.result c.is_empty.ensures c.if-is_empty.true)
