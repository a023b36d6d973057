-- A write is told if writes are compared.
use Rattle.qil_state.specs.State.{state_of}
use Rattle.qil_compare.proofs.Happening.{unasked_write, wrote_is, wrote_none, told_as, is_off, is_on}
use Rattle.qil_compare.proofs.happened.wrote.Goals as goal

pub returns-then-not-kinds : goal.returns-then-not-kinds
returns-then-not-kinds g c = λ due ahead. unasked_write (g.M.Readers.whole c.args.machine.now).program c.args.other.now c.args.kinds (state_of (g.M.Readers.whole c.args.machine.now)) due (is_off c.args.kinds.writes c.if-not-kinds.true)

pub returns-in_default : goal.returns-in_default
returns-in_default g c = λ due ahead.
    wrote_none (g.M.Readers.whole c.args.machine.now).program c.args.other.now c.args.kinds (state_of (g.M.Readers.whole c.args.machine.now)) due c.args.before.ahead (is_on c.args.kinds.writes c.if-not-kinds.false) ahead c.in_default.ensures

pub returns : goal.returns
returns g c = λ due ahead.
    let p = (g.M.Readers.whole c.args.machine.now).program in
    let s = state_of (g.M.Readers.whole c.args.machine.now) in
    told_as p c.args.kinds s c.wrote_at.result _ _
    (wrote_is p c.args.other.now c.args.kinds s due c.args.before.ahead c.in-Some.range (is_on c.args.kinds.writes c.if-not-kinds.false) ahead c.in-Some.ensures)
    (c.wrote_at.ensures c.args.kinds)
