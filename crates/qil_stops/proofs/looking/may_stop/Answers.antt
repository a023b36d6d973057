-- Where no stop may hold, each reads as before, and none is a breakpoint that is there.
use Rattle.std.proofs.Common.{◌∙◌, arith}
use Rattle.qil_semantics.specs.Stops.{is_held}
use Rattle.qil_state.specs.State.{state_of}
use Rattle.qil_stops.proofs.Kept.{readable-at}
use Rattle.qil_stops.proofs.Naming.{first_break-by, first-past, first-none}
use Rattle.qil_stops.proofs.Told.{kept-more}
use Rattle.qil_stops.proofs.looking.may_stop.Goals as goal

pub loop-index-init : goal.loop-index-init
loop-index-init g c = record {
  quiet = λ j d lt. absurd (omega (arith, lt));
  unbroken = first_break-by (g.M.HasCopies.present c.args.machine.now).program (state_of (g.M.HasCopies.present c.args.machine.now)) c.args.stops.now;
}

pub may_be_met-requires : goal.may_be_met-requires
may_be_met-requires g c = readable-at c.args.stops.now c.loop-index.index _ c.requires.readable c.loop-index-test.true

pub loop-index-preserved : goal.loop-index-preserved
loop-index-preserved g c = record {
  quiet = kept-more (g.M.HasCopies.present c.args.machine.now).program (state_of (g.M.HasCopies.present c.args.machine.now)) c.args.stops.now c.args.before.now c.loop-index.index _ _ c.loop-index-test.true c.requires.count
      (c.may_be_met.ensures.quiet c.if-may_be_met.false) c.loop-index.invariant.quiet;
  unbroken = c.loop-index.invariant.unbroken
      ∙ first-past (g.M.HasCopies.present c.args.machine.now).program (is_held (state_of (g.M.HasCopies.present c.args.machine.now))) c.args.stops.now c.loop-index.index _ c.loop-index-test.true (c.may_be_met.ensures.unbroken c.if-may_be_met.false);
}

pub returns-clause-quiet : goal.returns-clause-quiet
returns-clause-quiet g c = λ none j d lt. c.loop-index.invariant.quiet j d (omega (arith, lt))

pub returns-clause-unbroken : goal.returns-clause-unbroken
returns-clause-unbroken g c = λ none.
    c.loop-index.invariant.unbroken ∙ first-none (g.M.HasCopies.present c.args.machine.now).program (is_held (state_of (g.M.HasCopies.present c.args.machine.now))) c.args.stops.now c.loop-index.index (omega arith)
