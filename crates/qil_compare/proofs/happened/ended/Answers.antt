-- The end is told if it is compared.
use Rattle.qil_state.specs.State.{state_of}
use Rattle.qil_compare.specs.Events.{ended, end_of}
use Rattle.qil_compare.proofs.Happening.{is_off, is_on, if_not, end_is, told_as}
use Rattle.qil_compare.proofs.happened.ended.Goals as goal

pub returns-then-not-kinds : goal.returns-then-not-kinds
returns-then-not-kinds g c = λ due of. if_not c.args.kinds.end (ended (end_of (g.M.Readers.whole c.args.machine.now).program due.returns (state_of (g.M.Readers.whole c.args.machine.now)).status)) (is_off c.args.kinds.end c.if-not-kinds.true)

pub returns : goal.returns
returns g c = λ due of.
    let p = (g.M.Readers.whole c.args.machine.now).program in
    let s = state_of (g.M.Readers.whole c.args.machine.now) in
    told_as p c.args.kinds s c.told.result _ _ (end_is p c.args.kinds s due c.args.before.func of (is_on c.args.kinds.end c.if-not-kinds.false)) (c.told.ensures c.args.kinds)
