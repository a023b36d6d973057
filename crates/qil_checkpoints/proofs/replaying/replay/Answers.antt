-- Poke after poke.
use Rattle.std.proofs.Common.{refl, ◌∙◌, ◌<◌, arith, drop}
use Rattle.qil_state.specs.State.{state_of}
use Rattle.qil_checkpoints.proofs.Parts.{poked-le, rest-end, next-made, next-poked}
use Rattle.qil_checkpoints.proofs.AlongWalks.{by-program, gone-through}
use Rattle.qil_checkpoints.proofs.replaying.replay.Goals as goal

pub loop-made-init : goal.loop-made-init
loop-made-init g c = record { program = refl; kept = refl; poked = c.requires; state = λ s pokes part moves at. (part, at) }

pub go_through-at-requires : goal.go_through-at-requires
go_through-at-requires g c =
    let fits : c.args.to < 18446744073709551616 = omega arith in
    let next = next-made c.args.part.now c.loop-made.made-index c.loop-made.at c.args.to 18446744073709551616 _ c.loop-made-test.true c.loop-made.invariant.poked fits in
    record { order = next.0; below = next.1; width = next.2 }

pub loop-made-preserved : goal.loop-made-preserved
loop-made-preserved g c =
    let i = c.loop-made.invariant in
    let p = (g.M.HasCopies.present c.args.machine.now).program in
    record {
      program = c.go_through-at.ensures.program ∙ i.program;
      kept = c.go_through-at.ensures.kept ∙ i.kept;
      poked = next-poked c.args.part.now c.loop-made.made-index c.loop-made.at c.args.to _ c.go_through-at.result c.loop-made-test.true i.poked c.go_through-at.ensures.position;
      state = λ s pokes part moves at.
          gone-through p (g.M.HasCopies.present c.loop-made.machine).program s (state_of (g.M.HasCopies.present c.loop-made.machine)) (state_of (g.M.HasCopies.present c.go_through-at.new.machine)) pokes c.args.part.now
          c.loop-made.made-index c.loop-made.at c.args.to _ c.go_through-at.result c.loop-made-test.true i.poked i.program c.go_through-at.ensures.position moves (i.state s pokes part moves at).0 (i.state s pokes part moves at).1
          (c.go_through-at.ensures.state s pokes);
    }

pub run_again-requires : goal.run_again-requires
run_again-requires g c = poked-le c.loop-made.at (drop c.loop-made.made-index c.args.part.now) c.args.to c.loop-made.invariant.poked

pub returns-clause-state : goal.returns-clause-state
returns-clause-state g c = λ s pokes part moves at.
    let i = c.loop-made.invariant in
    let p = (g.M.HasCopies.present c.args.machine.now).program in
    let there = i.state s pokes part moves at in
    by-program (g.M.HasCopies.present c.loop-made.machine).program p s (state_of (g.M.HasCopies.present c.loop-made.machine)) (state_of (g.M.HasCopies.present c.run_again.new.machine)) pokes c.loop-made.at c.args.to i.program
    (c.run_again.ensures.state s pokes (rest-end pokes c.args.part.now c.loop-made.made-index c.loop-made.at c.args.to c.loop-made-test.false there.0)) moves there.1
