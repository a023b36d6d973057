-- Move by move.
use Rattle.std.proofs.Common.{◌≡◌, ◌∙◌, sym, ap, refl, subst, ℕ, ◌+◌, ◌≤◌, Option, arith}
use Rattle.qil_semantics.specs.State.{State}
use Rattle.qil_state.specs.State.{state_of}
use Rattle.qil_checkpoints.specs.declared.hit.Hit.{Hit}
use Rattle.qil_checkpoints.specs.Hits.{IsLastHit}
use Rattle.qil_checkpoints.specs.CallDepths.{shallow_in, shallow_at}
use Rattle.qil_checkpoints.proofs.AlongWalks.{by-program, moves-below}
use Rattle.qil_checkpoints.proofs.Hitting.{hit-begun, hit-more}
use Rattle.qil_checkpoints.proofs.shallow.last_shallow.Goals as goal

pub loop-at-init : goal.loop-at-init
loop-at-init g c =
    let p = (g.M.HasCopies.present c.args.machine.now).program in
    record {
      program = refl;
      kept = refl;
      begun = omega arith;
      within = c.requires.order;
      ran = λ s moves here. (here, hit-begun (shallow_at p c.args.most s c.args.pokes.now) c.args.from);
    }

pub run_through-requires : goal.run_through-requires
run_through-requires g c = record { order = omega arith; poked = (c.requires.poked.0, (let le = c.requires.poked.1 in omega (arith, le, c.loop-at-test.true)), c.requires.poked.2) }

pub loop-at-preserved : goal.loop-at-preserved
loop-at-preserved g c =
    let i = c.loop-at.invariant in
    let p = (g.M.HasCopies.present c.args.machine.now).program in
    let was = g.M.HasCopies.present c.loop-at.machine in
    let new = g.M.HasCopies.present c.run_through.new.machine in
    let at = c.loop-at.at in
    record {
      program = c.run_through.ensures.program ∙ i.program;
      kept = c.run_through.ensures.kept ∙ i.kept;
      begun = omega (arith, i.begun);
      within = omega (arith, c.loop-at-test.true);
      ran = λ s moves from.
          (let before = i.ran s moves from in (
            by-program was.program p s (state_of was) (state_of new) c.args.pokes.now at (at + 1) i.program (c.run_through.ensures.state s) (moves-below p s c.args.pokes.now c.args.to (at + 1) moves (omega (arith, c.loop-at-test.true))) before.0,
            subst (λ (hit : Option Hit). IsLastHit (shallow_at p c.args.most s c.args.pokes.now) c.args.from (at + 1) hit) (sym c.later_hit-last.ensures)
                (hit-more (shallow_at p c.args.most s c.args.pokes.now) c.args.from at c.loop-at.last c.shallow_now.result i.begun before.1 (c.shallow_now.ensures ∙ ap (λ (t : State). shallow_in c.args.most t) before.0)),
          ));
    }

pub returns-clause-hit : goal.returns-clause-hit
returns-clause-hit g c = λ s moves from.
    let i = c.loop-at.invariant in
    let p = (g.M.HasCopies.present c.args.machine.now).program in
    let end : c.loop-at.at ≡ c.args.to = omega (arith, i.within, c.loop-at-test.false) in
    subst (λ (n : ℕ). IsLastHit (shallow_at p c.args.most s c.args.pokes.now) c.args.from n c.loop-at.last) end (i.ran s moves from).1
