-- From the latest copy that isn't of a later state, by the pokes between.
use Rattle.qil_state.specs.State.{state_of}
use Rattle.qil_checkpoints.specs.Held.{first_of}
use Rattle.qil_checkpoints.proofs.AlongWalks.{by-program, moves-below}
use Rattle.qil_checkpoints.proofs.Copies.{kept-there, kept-within}
use Rattle.qil_checkpoints.proofs.replaying.jump.Goals as goal

pub latest_copy-copy-requires : goal.latest_copy-copy-requires
latest_copy-copy-requires g c = c.requires.2.start

pub restore-requires : goal.restore-requires
restore-requires g c =
    kept-within (g.M.HasCopies.present c.args.machine.now).program (g.M.HasCopies.kept c.args.machine.now) c.args.positions.now c.args.pokes.now c.requires.0 c.latest_copy-copy.result.index c.latest_copy-copy.result.position c.requires.2
    c.latest_copy-copy.ensures.there

pub run_through-requires : goal.run_through-requires
run_through-requires g c = record { order = c.latest_copy-copy.ensures.last; poked = (c.requires.0, c.requires.1, c.requires.2.poked) }

pub returns-clause-state : goal.returns-clause-state
returns-clause-state g c =
    let p = (g.M.HasCopies.present c.args.machine.now).program in
    let kept = g.M.HasCopies.kept c.args.machine.now in
    let copy = c.latest_copy-copy.result in
    let mid = g.M.HasCopies.present c.restore.new.self in
    by-program mid.program p (first_of kept) (state_of mid) (state_of (g.M.HasCopies.present c.run_through.new.machine)) c.args.pokes.now copy.position c.args.position c.restore.ensures.program
    (c.run_through.ensures.state (first_of kept)) (moves-below p (first_of kept) c.args.pokes.now c.requires.0 c.args.position c.requires.2.moves c.requires.1)
    (kept-there p kept c.args.positions.now c.args.pokes.now c.requires.0 copy.index copy.position (state_of mid) c.requires.2 c.latest_copy-copy.ensures.there c.restore.ensures.state)
