-- Each move goes one further.
use Rattle.std.proofs.Common.{◌≡◌, arith, ◌∙◌, ap, refl, false, Err}
use Rattle.qil_semantics.specs.Timeline.{forward, at_end}
use Rattle.qil_stops.proofs.OnWay.{not_true}
use Rattle.qil_stops.proofs.Walks.{walked-none, walked-more, walked-position, walked-near, walked-all}
use Rattle.qil_undo_log.proofs.walk.forward_by.Goals as goal

pub loop-made-init : goal.loop-made-init
loop-made-init g c = record { program = refl; way = walked-none (g.H.History.program c.args.history.now) (g.H.History.timeline c.args.history.now) }

pub forward-requires : goal.forward-requires
forward-requires g c =
    let at = walked-position (g.H.History.program c.args.history.now) c.loop-made.made (g.H.History.timeline c.args.history.now) (g.H.History.timeline c.loop-made.history) c.loop-made.invariant.way in
    omega (arith, at)

pub loop-made-preserved : goal.loop-made-preserved
loop-made-preserved g c =
    let i = c.loop-made.invariant in
    let now = g.H.History.timeline c.loop-made.history in
    let goes : at_end now ≡ false = not_true (at_end now) (λ e. let w = c.in-Ok.ensures.end.1 e in absurd cc) in
    let f = c.in-Ok.ensures.ok ∙ ap (λ p. forward p now) i.program in
    record {
      program = c.in-Ok.ensures.program ∙ i.program;
      way = walked-more (g.H.History.program c.args.history.now) c.loop-made.made (g.H.History.timeline c.args.history.now) now (g.H.History.timeline c.forward.new.self) i.way goes f;
    }

pub returns-in-Err-AtEnd-clause-near : goal.returns-in-Err-AtEnd-clause-near
returns-in-Err-AtEnd-clause-near g c =
    walked-near (g.H.History.program c.args.history.now) c.args.count c.loop-made.made (g.H.History.timeline c.args.history.now) (g.H.History.timeline c.loop-made.history) (g.H.History.timeline c.forward.new.self)
    c.loop-made.invariant.way (omega arith) c.in-Err-AtEnd.ensures.err

pub returns-in-Err-AtEnd-clause-moved : goal.returns-in-Err-AtEnd-clause-moved
returns-in-Err-AtEnd-clause-moved g c =
    walked-all (g.H.History.program c.args.history.now) c.args.count c.loop-made.made (g.H.History.timeline c.args.history.now) (g.H.History.timeline c.loop-made.history) (g.H.History.timeline c.forward.new.self)
    c.loop-made.invariant.way (omega arith) c.in-Err-AtEnd.ensures.err (λ lt. c.in-Err-AtEnd.ensures.end.0 (ap Err c.in-Err-AtEnd.field-0-is))

pub returns-in-Err-OutOfMemory-clause-near : goal.returns-in-Err-OutOfMemory-clause-near
returns-in-Err-OutOfMemory-clause-near g c =
    walked-near (g.H.History.program c.args.history.now) c.args.count c.loop-made.made (g.H.History.timeline c.args.history.now) (g.H.History.timeline c.loop-made.history) (g.H.History.timeline c.forward.new.self)
    c.loop-made.invariant.way (omega arith) c.in-Err-OutOfMemory.ensures.err

pub returns-in-Err-OutOfMemory-clause-moved : goal.returns-in-Err-OutOfMemory-clause-moved
returns-in-Err-OutOfMemory-clause-moved g c =
    let arm = c.in-Err-OutOfMemory in
    let now = g.H.History.timeline c.loop-made.history in
    let goes : at_end now ≡ false = not_true (at_end now) (λ e. let w = arm.ensures.end.1 e in let f = arm.field-0-is in absurd cc) in (
      c.loop-made-test.true,
      walked-all (g.H.History.program c.args.history.now) c.loop-made.made c.loop-made.made (g.H.History.timeline c.args.history.now) now (g.H.History.timeline c.forward.new.self)
          c.loop-made.invariant.way (omega arith) arm.ensures.err (λ lt. absurd (omega (arith, lt))),
      ap at_end arm.ensures.err ∙ goes,
    )

pub returns-clause-near : goal.returns-clause-near
returns-clause-near g c =
    walked-near (g.H.History.program c.args.history.now) c.args.count c.loop-made.made (g.H.History.timeline c.args.history.now) (g.H.History.timeline c.loop-made.history) (g.H.History.timeline c.loop-made.history)
    c.loop-made.invariant.way (omega arith) refl

pub returns-clause-moved : goal.returns-clause-moved
returns-clause-moved g c =
    walked-all (g.H.History.program c.args.history.now) c.args.count c.loop-made.made (g.H.History.timeline c.args.history.now) (g.H.History.timeline c.loop-made.history) (g.H.History.timeline c.loop-made.history)
    c.loop-made.invariant.way (omega arith) refl (λ lt. absurd (omega (arith, lt)))
