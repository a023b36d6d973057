-- A watch is never held, whatever it watches: by hand, so that another answer is refused at once.
use Rattle.std.proofs.Common.{◌∙◌, sym, ap}
use Rattle.qil_semantics.specs.Stops.{is_held}
use Rattle.qil_state.specs.State.{state_of}
use Rattle.qil_stops.specs.Named.{named_kind, passes}
use Rattle.qil_stops.proofs.Told.{no_watch}
use Rattle.qil_stops.proofs.looking.is_held.Goals as goal

pub returns-in-Watch : goal.returns-in-Watch
returns-in-Watch g c =
    let s = state_of (g.M.HasCopies.present c.args.machine.now) in
    let p = (g.M.HasCopies.present c.args.machine.now).program in
    no_watch s p c.in-Watch.field-0 ∙ ap (λ k. passes (is_held s) (named_kind p k)) (sym c.in-Watch.is)
