-- A run along the walk makes all steps.
use Rattle.std.proofs.Common.{arith, ◌-◌}
use Rattle.qil_state.specs.State.{state_of}
use Rattle.qil_checkpoints.proofs.AlongWalks.{run-to}
use Rattle.qil_checkpoints.proofs.replaying.run_again.Goals as goal

pub returns-clause-state : goal.returns-clause-state
returns-clause-state g c = λ s pokes none moves at.
    let old = g.M.HasCopies.present c.args.machine.now in
    run-to old.program s (state_of old) (state_of (g.M.HasCopies.present c.run.new.self)) pokes c.args.from c.args.to c.run.result c.requires none moves at
    (c.args.to - c.args.from) (omega (arith, c.requires)) c.run.ensures.few c.run.ensures.steps c.run.ensures.over
