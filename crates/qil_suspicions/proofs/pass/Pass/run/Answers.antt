-- One move more, and what is noted of it.
use Rattle.std.proofs.Common.{◌∙◌, refl, sym, ap, inl, arith}
use Rattle.qil_semantics.specs.Targets.{after}
use Rattle.qil_state.specs.State.{state_of}
use Rattle.qil_shadow.specs.Steps.{shadow_of}
use Rattle.qil_suspicions.proofs.Beside.{runs_first, runs_on}
use Rattle.qil_suspicions.proofs.RunLemmas.{ran_on, moved_on, moved_one}
use Rattle.qil_suspicions.proofs.pass.Pass.run.Goals as goal

pub loop-round-init : goal.loop-round-init
loop-round-init g c = record {
  program = refl;
  few = omega (arith, c.requires);
  steps = ap (after c.args.self.now.whole.program (state_of c.args.self.now.whole)) (sym c.requires);
  so_far = inl c.requires;
  noted = λ start. runs_first c.args.self.now c.requires start;
}

pub loop-round-preserved : goal.loop-round-preserved
loop-round-preserved g c =
    let i = c.loop-round.invariant in
    let m = c.make_move.ensures in
    let goes = c.is_over.ensures.going c.if-is_over.false in
    let steps = ran_on _ _ _ _ _ _ _ i.program m.least i.steps m.steps in
    let one = moved_one _ (state_of c.loop-round.self.whole) (state_of c.make_move.new.self.whole) _ _ m.least m.few m.steps c.in_ok-make_move.ensures.over goes in
    record {
      program = m.program ∙ i.program;
      few = omega (arith, i.few, m.few);
      steps = steps;
      so_far = moved_on (state_of c.loop-round.self.whole) (state_of c.make_move.new.self.whole) _ _ _ i.so_far c.in_ok-make_move.ensures.over m.going;
      noted = λ start.
          runs_on c.args.self.now.whole.program (state_of c.args.self.now.whole) (shadow_of c.args.self.now.whole.program (state_of c.args.self.now.whole) c.args.self.now.shadow) c.loop-round.self c.make_move.new.self i.program (m.program ∙ i.program) i.steps steps (omega (arith, i.few, c.loop-round-test.true)) one goes (c.in_ok-make_move.ensures.looked goes) start.stands.ruled
          (i.noted start);
    }
