-- One step more, behind which no stop may hold.
use Rattle.std.proofs.Common.{◌∙◌, ap, sym, subst, arith}
use Rattle.std.proofs.lemmas.Bool.{true≢false}
use Rattle.qil_tree.specs.declared.tree.Program.{Program}
use Rattle.qil_semantics.specs.State.{State}
use Rattle.qil_state.specs.State.{state_of}
use Rattle.qil_stops.specs.Readings.{AllTell}
use Rattle.qil_flatmachine.specs.Seen.{Base, FlatWhole}
use Rattle.qil_flatmachine.proofs.Going.{ran_more, runs_more}
use Rattle.qil_flatmachine.proofs.Quietly.{quiet_more, unbroken_more}
use Rattle.qil_flatmachine.proofs.machine.FlatMachine.run_quietly.Goals as goal

pub loop-made-preserved : goal.loop-made-preserved
loop-made-preserved g c =
    let i = c.loop-made.invariant in
    let p = c.args.self.now.whole.program in
    let s = state_of c.args.self.now.whole in
    let new = c.perform.new.self.whole in
    let same = c.perform.ensures.program ∙ i.program in
    let made = c.loop-made.self.whole in
    let steps = ran_more p c.loop-made.self.whole.program s (state_of c.loop-made.self.whole) (state_of new) c.loop-made.made i.program i.steps c.perform.ensures.step in
    -- what every stop told here before this step
    let here : AllTell p s c.args.stops.now c.args.before.now → AllTell new.program (state_of made) c.args.stops.now c.args.before.now = λ told.
    subst (λ (r : Program _). AllTell r (state_of made) c.args.stops.now c.args.before.now) (sym same)
    (subst (λ (t : State). AllTell p t c.args.stops.now c.args.before.now) (sym i.steps) (i.quiet told c.loop-made.made (omega arith))) in
    record {
      base = c.perform.ensures.base ∙ i.base;
      program = same;
      goes = c.perform.ensures.goes c.if-not-perform.false;
      steps = steps;
      running = runs_more p s c.loop-made.self.whole c.loop-made.made i.running i.steps i.goes;
      quiet = λ told. quiet_more p new.program s (state_of new) c.args.stops.now c.args.before.now c.loop-made.made same steps (i.quiet told)
          (c.may_stop_behind.ensures.quiet c.if-may_stop_behind.false (state_of made) (λ leaves. ap (λ (t : State). t.memory) c.perform.ensures.step ∙ leaves c.loop-made.self.base.flat made c.fetch-inst.ensures) (here told));
      unbroken = unbroken_more p new.program s (state_of new) c.args.stops.now c.loop-made.made same steps i.unbroken (c.may_stop_behind.ensures.unbroken c.if-may_stop_behind.false);
    }

-- with no stops it goes on behind each step
pub returns-then-may_stop_behind-clause-over : goal.returns-then-may_stop_behind-clause-over
returns-then-may_stop_behind-clause-over g c none = absurd (true≢false (sym c.if-may_stop_behind.true ∙ c.may_stop_behind.ensures.none none))

-- the instructions stay those of the code
pub fetch-inst-requires-clause-insts : goal.fetch-inst-requires-clause-insts
fetch-inst-requires-clause-insts g c = c.insts-insts.ensures.insts ∙ ap (λ (x : FlatWhole _). x.base.flat.insts) c.self.view_is ∙ sym (ap (λ (b : Base _). b.flat.insts) c.loop-made.invariant.base)

-- by hand, so that a look at other stops is refused at once
pub may_stop_behind-requires-clause-of_memory : goal.may_stop_behind-requires-clause-of_memory
may_stop_behind-requires-clause-of_memory g c = c.are_of_memory-is_of_memory.ensures
