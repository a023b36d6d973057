use Rattle.qil_machine.proofs.Weights.{entered_weighs}
use Rattle.qil_machine.proofs.Jumps.{ready, go_steps, go_fails}
use Rattle.qil_machine.proofs.machine.Machine.take_edge.Goals as goal

pub go-requires-clause-leaving : goal.go-requires-clause-leaving
go-requires-clause-leaving g c =
    (ready _ c.args.self.now c.args.block.now c.args.edge.now c.args.index c.self.view_is c.self.invariant c.requires.here c.requires.end c.requires.edge).leaving

pub go-requires-clause-moves : goal.go-requires-clause-moves
go-requires-clause-moves g c =
    (ready _ c.args.self.now c.args.block.now c.args.edge.now c.args.index c.self.view_is c.self.invariant c.requires.here c.requires.end c.requires.edge).moves

pub go-requires-clause-short : goal.go-requires-clause-short
go-requires-clause-short g c =
    (ready _ c.args.self.now c.args.block.now c.args.edge.now c.args.index c.self.view_is c.self.invariant c.requires.here c.requires.end c.requires.edge).short

pub returns-in-Err-clause-fault : goal.returns-in-Err-clause-fault
returns-in-Err-clause-fault g c =
    go_fails _ c.args.self.now c.args.block.now c.args.edge.now c.args.index c.in-Err.error c.self.view_is c.self.invariant c.requires.running c.requires.here c.requires.edge c.in-Err.ensures.fault

pub returns-clause-does : goal.returns-clause-does
returns-clause-does g c =
    go_steps _ c.args.self.now _ c.args.block.now c.args.edge.now c.args.index c.self.view_is c.self.invariant c.requires.running c.requires.here c.requires.edge c.in-Ok.ensures.entered c.in-Ok.ensures.after

pub returns-clause-weighs : goal.returns-clause-weighs
returns-clause-weighs g c =
    entered_weighs c.args.self.now _ c.args.block.now c.args.edge.now c.args.index _ c.requires.here c.requires.edge c.in-Ok.ensures.entered c.in-Ok.ensures.after c.in-Ok.ensures.weighs
