-- Answers to the goals of `are_slots`.
use Rattle.std.proofs.Common.{sym, drop, ◌+◌}
use Rattle.qil_machine.specs.qil_code.Facts.{Finds}
use Rattle.qil_state.specs.State.{FrameFits}
use Rattle.qrev_views.proofs.Rows.{frame_fits, temps_long}
use Rattle.qrev_inspection.proofs.looking.are_slots.Goals as goal

pub returns : goal.returns
returns g c = λ k f at.
    let w = g.M.Readers.whole c.args.machine.now in
    let finds : Finds w.program = rw c.code_of.ensures at c.func-known.ensures.finds in
    let fits : FrameFits w.program f = frame_fits w.program w.frames k f c.frame-there.ensures.machine.frames at in
    sym (temps_long w.program (drop (k + 1) w.frames) f finds fits)
