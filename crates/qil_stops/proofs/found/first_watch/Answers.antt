-- The test of a watch by what was read before.
use Rattle.std.proofs.Common.{◌∙◌, sym}
use Rattle.qil_semantics.specs.Stops.{differs}
use Rattle.qil_history.specs.qil_state.State.{state_of}
use Rattle.qil_stops.proofs.Kept.{readable-at}
use Rattle.qil_stops.proofs.Naming.{first_watch-by, first-here, first-past}
use Rattle.qil_stops.proofs.Telling.{watch-test}
use Rattle.qil_stops.proofs.found.first_watch.Goals as goal

pub loop-index-init : goal.loop-index-init
loop-index-init g c = λ old reported. first_watch-by c.args.machine.now.program old (state_of c.args.machine.now) c.args.stops.now

pub read-requires : goal.read-requires
read-requires g c = readable-at c.args.stops.now c.loop-index.index _ c.requires.readable c.loop-index-test.true

pub returns-then-ne : goal.returns-then-ne
returns-then-ne g c = λ old reported.
    let p = c.args.machine.now.program in
    let new = state_of c.args.machine.now in
    sym (c.loop-index.invariant old reported ∙ first-here p (differs old new) c.args.stops.now c.loop-index.index _ c.loop-index-test.true
    (watch-test p old new c.args.stops.now c.args.before.now c.loop-index.index _ _ c.ne.result c.read.result reported c.loop-index-test.true c.requires.count c.read.ensures c.ne.ensures ∙ c.if-ne.true))

pub loop-index-preserved : goal.loop-index-preserved
loop-index-preserved g c = λ old reported.
    let p = c.args.machine.now.program in
    let new = state_of c.args.machine.now in
    c.loop-index.invariant old reported ∙ first-past p (differs old new) c.args.stops.now c.loop-index.index _ c.loop-index-test.true
    (watch-test p old new c.args.stops.now c.args.before.now c.loop-index.index _ _ c.ne.result c.read.result reported c.loop-index-test.true c.requires.count c.read.ensures c.ne.ensures ∙ c.if-ne.false)
