-- Steps, and then the poke.
use Rattle.std.proofs.Common.{arith, ◌+◌}
use Rattle.qil_state.specs.State.{state_of}
use Rattle.qil_checkpoints.proofs.AlongWalks.{moves-below, poke-along}
use Rattle.qil_checkpoints.proofs.replaying.go_through.Goals as goal

pub returns-clause-state : goal.returns-clause-state
returns-clause-state g c = λ s pokes none here moves at.
    let p = (g.M.HasCopies.present c.args.machine.now).program in
    let mid = g.M.HasCopies.present c.run_again.new.machine in
    poke-along mid.program p s (state_of mid) (state_of (g.M.HasCopies.present c.poke_again.new.machine)) pokes c.args.made.position c.args.made.poke c.run_again.ensures.program
    (c.run_again.ensures.state s pokes none (moves-below p s pokes (c.args.made.position + 1) c.args.made.position moves (omega arith)) at) moves here c.poke_again.ensures.state
