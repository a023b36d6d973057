-- A watch comes before a breakpoint.
use Rattle.std.proofs.Common.{◌∙◌, sym}
use Rattle.qil_state.specs.State.{state_of}
use Rattle.qil_stops.specs.Named.{named_stops}
use Rattle.qil_stops.proofs.Telling.{by-watch, by-break, by-none}
use Rattle.qil_stops.proofs.looking.stopped.Goals as goal

pub returns-in-Some : goal.returns-in-Some
returns-in-Some g c = λ old reported.
    by-watch (named_stops (g.M.HasCopies.present c.args.machine.now).program c.args.stops.now) old (state_of (g.M.HasCopies.present c.args.machine.now)) c.in-Some.number (sym c.in-Some.is ∙ c.first_watch.ensures.first old reported)

pub returns-in-Some-first_break : goal.returns-in-Some-first_break
returns-in-Some-first_break g c = λ old reported.
    by-break (named_stops (g.M.HasCopies.present c.args.machine.now).program c.args.stops.now) old (state_of (g.M.HasCopies.present c.args.machine.now)) c.in-Some-first_break.number
    (sym c.in_default.is ∙ c.first_watch.ensures.first old reported) (sym c.in-Some-first_break.is ∙ c.first_break.ensures)

pub returns : goal.returns
returns g c = λ old reported.
    by-none (named_stops (g.M.HasCopies.present c.args.machine.now).program c.args.stops.now) old (state_of (g.M.HasCopies.present c.args.machine.now))
    (sym c.in_default.is ∙ c.first_watch.ensures.first old reported) (sym c.in_default-first_break.is ∙ c.first_break.ensures)
