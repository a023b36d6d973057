-- Answers to the goals of `data_variables`.
use Rattle.std.proofs.Common.{append_assoc, refl}
use Rattle.qrev_inspection.proofs.Lifting.{datas_shown}
use Rattle.qrev_inspection.proofs.looking.data_variables.Goals as goal

pub returns : goal.returns
returns g c =
    let s = g.L.Debugged.state c.args.debuggee.now.recorder.live in
    let shown = c.in_ok-list-2.ensures in (
      shown.0,
      datas_shown (g.L.Readers.whole c.machine-machine.result.now) s.program c.program-program.result.now s.timeline.now c.args.debuggee.now.names.text.items c.args.showing c.args.page shown.0
          c.machine-machine.ensures.now c.machine-machine.ensures.program c.program-program.ensures shown.1,
      rw (c.in_ok-body.ensures, shown.2, c.in_ok-list.ensures, append_assoc, append_assoc) refl,
    )
