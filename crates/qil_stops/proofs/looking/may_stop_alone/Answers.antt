-- What is so of the first stop is so of all, where it is the only one.
use Rattle.std.proofs.Common.{◌∙◌, arith}
use Rattle.qil_semantics.specs.Stops.{is_held}
use Rattle.qil_state.specs.State.{state_of}
use Rattle.qil_stops.proofs.Kept.{readable-at}
use Rattle.qil_stops.proofs.Naming.{first_break-by, first-past, first-none}
use Rattle.qil_stops.proofs.Told.{kept-more}
use Rattle.qil_stops.proofs.looking.may_stop_alone.Goals as goal

pub may_be_met-requires : goal.may_be_met-requires
may_be_met-requires g c = readable-at c.args.stops.now 0 _ c.requires.readable c.requires.some

pub returns-clause-quiet : goal.returns-clause-quiet
returns-clause-quiet g c = λ none one j d lt.
    kept-more (g.M.HasCopies.present c.args.machine.now).program (state_of (g.M.HasCopies.present c.args.machine.now)) c.args.stops.now c.args.before.now 0 _ _ c.requires.some c.requires.count (c.may_be_met.ensures.quiet none)
    (λ i x under. absurd (omega (arith, under))) j d (omega (arith, lt, one))

pub returns-clause-unbroken : goal.returns-clause-unbroken
returns-clause-unbroken g c = λ none one.
    first_break-by (g.M.HasCopies.present c.args.machine.now).program (state_of (g.M.HasCopies.present c.args.machine.now)) c.args.stops.now
    ∙ first-past (g.M.HasCopies.present c.args.machine.now).program (is_held (state_of (g.M.HasCopies.present c.args.machine.now))) c.args.stops.now 0 _ c.requires.some (c.may_be_met.ensures.unbroken none)
    ∙ first-none (g.M.HasCopies.present c.args.machine.now).program (is_held (state_of (g.M.HasCopies.present c.args.machine.now))) c.args.stops.now 1 (omega (arith, one))
