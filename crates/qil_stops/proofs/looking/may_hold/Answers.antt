-- With no stops none is at a breakpoint; with one, that one is all.
use Rattle.std.proofs.Common.{rules, arith}
use Rattle.std.proofs.lemmas.Grind.{common_steps}
use Rattle.qil_state.specs.State.{state_of}
use Rattle.qil_stops.proofs.Unbroken.{unbroken-none}
use Rattle.qil_stops.proofs.looking.may_hold.Goals as goal

pub returns-then-is_empty-clause-unbroken : goal.returns-then-is_empty-clause-unbroken
returns-then-is_empty-clause-unbroken g c told = unbroken-none (g.M.HasCopies.present c.args.machine.now).program (state_of (g.M.HasCopies.present c.args.machine.now)) c.args.stops.now (search rules)

pub returns-clause-quiet : goal.returns-clause-quiet
returns-clause-quiet g c told = c.may_stop_alone.ensures.quiet told (grind (arith, common_steps))

pub returns-clause-unbroken : goal.returns-clause-unbroken
returns-clause-unbroken g c told = c.may_stop_alone.ensures.unbroken told (grind (arith, common_steps))
