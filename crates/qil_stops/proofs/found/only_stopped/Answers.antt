-- One stop alone: its watch comes before its breakpoint, and it is one of the two.
use Rattle.qil_history.specs.qil_state.State.{state_of}
use Rattle.qil_stops.proofs.Telling.{only-watch, only-break, only-none}
use Rattle.qil_stops.proofs.found.only_stopped.Goals as goal

pub returns-then-ne : goal.returns-then-ne
returns-then-ne g c = λ old reported.
    only-watch c.args.machine.now.program old (state_of c.args.machine.now) c.args.stop.now c.args.before c.read.result c.ne.result reported c.read.ensures c.ne.ensures c.if-ne.true

pub returns-then-is_held : goal.returns-then-is_held
returns-then-is_held g c = λ old reported.
    only-break c.args.machine.now.program old (state_of c.args.machine.now) c.args.stop.now c.args.before c.read.result c.ne.result c.is_held.result reported c.read.ensures c.ne.ensures c.if-ne.false
    c.is_held.ensures c.if-is_held.true

pub returns : goal.returns
returns g c = λ old reported.
    only-none c.args.machine.now.program old (state_of c.args.machine.now) c.args.stop.now c.args.before c.read.result c.ne.result c.is_held.result reported c.read.ensures c.ne.ensures c.if-ne.false
    c.is_held.ensures c.if-is_held.false
