-- A machine with copies is at its start if the machine is.
use Rattle.std.proofs.Common.{subst, sym}
use Rattle.qil_flatmachine.specs.Kept.{WithCopies}
use Rattle.qrev_recorder.specs.Record.{setup_of}
use Rattle.qrev_adapter.specs.Opened.{HasStarted}
use Rattle.qrev_adapter.proofs.opening.open_restorable.Goals as goal

pub open_copies-requires-clause-begins : goal.open_copies-requires-clause-begins
open_copies-requires-clause-begins g c =
    subst (λ (m : WithCopies g.row.A.Denot). HasStarted (setup_of c.args.opening) c.args.loaded.now m.present.whole) (sym c.in-Ok.ensures) c.requires.begins
