-- What is made again isn't refused.
use Rattle.qil_state.specs.State.{state_of}
use Rattle.qil_checkpoints.specs.Walk.{after_poke}
use Rattle.qil_checkpoints.proofs.Refusing.{leads-again}
use Rattle.qil_checkpoints.proofs.replaying.poke_again.Goals as goal

pub returns-clause-state : goal.returns-clause-state
returns-clause-state g c = λ next made.
    let old = g.M.HasCopies.present c.args.machine.now in
    leads-again c.poke.result (after_poke old.program (state_of old) c.args.made) next (state_of (g.M.HasCopies.present c.poke.new.machine)) c.poke.ensures.ok c.poke.ensures.why c.poke.ensures.memory made
