-- The test of a watch by what was read before.
use Rattle.std.proofs.Common.{◌∙◌, sym, arith}
use Rattle.qil_semantics.specs.Stops.{differs}
use Rattle.qil_state.specs.State.{state_of}
use Rattle.qil_stops.proofs.Kept.{readable-at}
use Rattle.qil_stops.proofs.Naming.{first_watch-by, first-here, first-past, first-none}
use Rattle.qil_stops.proofs.Telling.{watch-test}
use Rattle.qil_stops.proofs.Told.{tells-more}
use Rattle.qil_stops.proofs.looking.first_watch.Goals as goal

pub loop-index-init : goal.loop-index-init
loop-index-init g c = record {
  first = λ old reported. first_watch-by (g.M.HasCopies.present c.args.machine.now).program old (state_of (g.M.HasCopies.present c.args.machine.now)) c.args.stops.now;
  same = λ j d lt. absurd (omega (arith, lt));
}

pub reading-requires : goal.reading-requires
reading-requires g c = readable-at c.args.stops.now c.loop-index.index _ c.requires.readable c.loop-index-test.true

pub returns-then-ne : goal.returns-then-ne
returns-then-ne g c = record {
  first = λ old reported.
      (let p = (g.M.HasCopies.present c.args.machine.now).program in
      let new = state_of (g.M.HasCopies.present c.args.machine.now) in
      sym (c.loop-index.invariant.first old reported ∙ first-here p (differs old new) c.args.stops.now c.loop-index.index _ c.loop-index-test.true
      (watch-test p old new c.args.stops.now c.args.before.now c.loop-index.index _ _ c.ne.result c.reading.result reported c.loop-index-test.true c.requires.count c.reading.ensures c.ne.ensures ∙ c.if-ne.true)));
  same = λ none. absurd cc;
}

pub loop-index-preserved : goal.loop-index-preserved
loop-index-preserved g c = record {
  first = λ old reported.
      (let p = (g.M.HasCopies.present c.args.machine.now).program in
      let new = state_of (g.M.HasCopies.present c.args.machine.now) in
      c.loop-index.invariant.first old reported ∙ first-past p (differs old new) c.args.stops.now c.loop-index.index _ c.loop-index-test.true
      (watch-test p old new c.args.stops.now c.args.before.now c.loop-index.index _ _ c.ne.result c.reading.result reported c.loop-index-test.true c.requires.count c.reading.ensures c.ne.ensures ∙ c.if-ne.false));
  same = tells-more (g.M.HasCopies.present c.args.machine.now).program (state_of (g.M.HasCopies.present c.args.machine.now)) c.args.stops.now c.args.before.now c.loop-index.index _ _ c.ne.result c.reading.result
      c.loop-index-test.true c.requires.count c.reading.ensures c.ne.ensures c.if-ne.false c.loop-index.invariant.same;
}

pub returns : goal.returns
returns g c = record {
  first = λ old reported. sym (c.loop-index.invariant.first old reported ∙ first-none (g.M.HasCopies.present c.args.machine.now).program (differs old (state_of (g.M.HasCopies.present c.args.machine.now))) c.args.stops.now c.loop-index.index (omega arith));
  same = λ none j d lt. c.loop-index.invariant.same j d (omega (arith, lt));
}
