-- One parameter more is set.
use Rattle.std.proofs.Common.{arith}
use Rattle.qil_shadow.proofs.ParamLemmas.{none_are, one_copied, all_items}
use Rattle.qil_shadow.proofs.ShapeLemmas.{first_lies, still_lies}
use Rattle.qil_shadow.proofs.start.first_call.Goals as goal

pub loop-param-init : goal.loop-param-init
loop-param-init g c = record {
  set = none_are c.args.code.now c.args.func.index _ _ _ c.slot_count.ensures c.in_ok-origins.ensures;
  lies = first_lies c.args.code.now c.args.func.index _ _ c.slot_count.ensures c.in_ok-origins.ensures;
}

pub loop-param-preserved : goal.loop-param-preserved
loop-param-preserved g c = record {
  set = one_copied c.args.code.now c.args.func.index _ _ _ c.params-param-items.result.now _ _ c.params-param-items.ensures c.loop-param-test.true c.given.ensures c.set.ensures c.loop-param.invariant.set;
  lies = still_lies c.args.code.now c.args.func.index _ _ _ _ c.set.ensures c.loop-param.invariant.lies;
}

pub returns-clause-one : goal.returns-clause-one
returns-clause-one g c = c.loop-param.invariant.set.one

pub returns-clause-lies : goal.returns-clause-lies
returns-clause-lies g c = c.loop-param.invariant.lies

pub returns-clause-frames : goal.returns-clause-frames
returns-clause-frames g c = λ f at.
    all_items c.args.code.now c.args.func.index _ _ c.params-param-items.result.now f c.params-param-items.ensures (omega (arith, c.loop-param-test.false)) at c.loop-param.invariant.set
