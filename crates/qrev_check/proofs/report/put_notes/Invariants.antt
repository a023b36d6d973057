-- The lines of the notes so far stand behind what was there.
use Rattle.std.proofs.Common.{◌≡◌, ◌++◌, take}
use Rattle.std.specs.List.{flat_map}
use Rattle.qil_suspicions.specs.Adding.{note_named}
use Rattle.qrev_check.specs.Told.{note_line}
use Rattle.qrev_check.proofs.report.put_notes.Given as goal

abbrev pub invariant-loop-note : goal.invariant-loop-note
invariant-loop-note g l = l.line ≡ l.fn.line ++ flat_map (λ n. note_line (note_named l.fn.code n)) (take l.note-index l.fn.notes)
