-- Part after part.
use Rattle.std.proofs.Common.{◌∙◌, sym, refl, subst, ◌+◌, arith}
use Rattle.qil_semantics.specs.Timeline.{Timeline}
use Rattle.qil_stops.proofs.Walks.{IsWalked}
use Rattle.qil_checkpoints.specs.Held.{held_timeline}
use Rattle.qil_checkpoints.proofs.Onward.{walked-by, walked-of}
use Rattle.qil_checkpoints.proofs.checkpoints.Checkpoints.run_on.Goals as goal

pub loop-made-init : goal.loop-made-init
loop-made-init g c = record {
  program = c.skip-made.ensures.program;
  position = c.skip-made.ensures.position;
  few = c.skip-made.ensures.few;
  way = walked-of (g.M.HasCopies.present c.args.self.now.machine).program c.skip-made.result (held_timeline g.M.HasCopies.present g.M.HasCopies.kept c.args.self.now) (held_timeline g.M.HasCopies.present g.M.HasCopies.kept c.skip-made.new.self)
      c.skip-made.ensures.moved c.skip-made.ensures.running;
}

pub returns-then-done-part-clause-moved : goal.returns-then-done-part-clause-moved
returns-then-done-part-clause-moved g c =
    let i = c.loop-made.invariant in
    (walked-by (g.M.HasCopies.present c.loop-made.self.machine).program (g.M.HasCopies.present c.args.self.now.machine).program c.loop-made.made c.run_part-done.result (held_timeline g.M.HasCopies.present g.M.HasCopies.kept c.args.self.now)
    (held_timeline g.M.HasCopies.present g.M.HasCopies.kept c.loop-made.self) (held_timeline g.M.HasCopies.present g.M.HasCopies.kept c.run_part-done.new.self) i.program i.way c.run_part-done.ensures.moved c.run_part-done.ensures.running).moves

pub returns-then-done-part-clause-running : goal.returns-then-done-part-clause-running
returns-then-done-part-clause-running g c =
    let i = c.loop-made.invariant in
    (walked-by (g.M.HasCopies.present c.loop-made.self.machine).program (g.M.HasCopies.present c.args.self.now.machine).program c.loop-made.made c.run_part-done.result (held_timeline g.M.HasCopies.present g.M.HasCopies.kept c.args.self.now)
    (held_timeline g.M.HasCopies.present g.M.HasCopies.kept c.loop-made.self) (held_timeline g.M.HasCopies.present g.M.HasCopies.kept c.run_part-done.new.self) i.program i.way c.run_part-done.ensures.moved c.run_part-done.ensures.running).runs

pub loop-made-preserved : goal.loop-made-preserved
loop-made-preserved g c =
    let i = c.loop-made.invariant in
    let p = (g.M.HasCopies.present c.args.self.now.machine).program in
    let t = held_timeline g.M.HasCopies.present g.M.HasCopies.kept c.args.self.now in
    let way = walked-by (g.M.HasCopies.present c.loop-made.self.machine).program p c.loop-made.made c.run_part-done.result t
    (held_timeline g.M.HasCopies.present g.M.HasCopies.kept c.loop-made.self) (held_timeline g.M.HasCopies.present g.M.HasCopies.kept c.run_part-done.new.self) i.program i.way c.run_part-done.ensures.moved c.run_part-done.ensures.running in
    record {
      program = c.keep_between.ensures.program ∙ c.run_part-done.ensures.program ∙ i.program;
      position = omega (arith, c.keep_between.ensures.position, c.run_part-done.ensures.position, i.position);
      few = omega (arith, c.part_length-part.ensures.few, c.run_part-done.ensures.few, i.few, c.loop-made-test.true);
      way = subst (λ (u : Timeline). IsWalked p t (c.loop-made.made + c.run_part-done.result) u) (sym c.keep_between.ensures.same) way;
    }
