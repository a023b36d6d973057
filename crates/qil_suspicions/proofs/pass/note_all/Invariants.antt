-- All notes come of what is left.
use Rattle.std.proofs.Common.{◌≡◌, drop}
use Rattle.qil_suspicions.specs.Adding.{with_notes}
use Rattle.qil_suspicions.proofs.pass.note_all.Given as goal

abbrev pub invariant-loop-suspicion : goal.invariant-loop-suspicion
invariant-loop-suspicion g l = with_notes l.fn.place (drop l.suspicion-index l.suspicion-items) l.notes ≡ with_notes l.fn.place l.suspicion-items l.fn.notes
