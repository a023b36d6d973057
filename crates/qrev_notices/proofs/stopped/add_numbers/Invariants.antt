-- The list stands in the event.
use Rattle.std.specs.Prelude.{codes}
use Rattle.qrev_notices.specs.Last.{IsNamedEvent}
use Rattle.qrev_notices.proofs.stopped.add_numbers.Given as goal

abbrev pub invariant-loop-number : goal.invariant-loop-number
invariant-loop-number g l = IsNamedEvent (codes "stopped") l.list.out.tokens
