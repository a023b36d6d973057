-- None so far is of this kind and place.
use Rattle.std.proofs.Common.{◌≡◌, ℕ, ◌<◌, Some, false}
use Rattle.std.specs.Prelude.{slice_get}
use Rattle.qil_suspicions.specs.declared.notes.Note.{Note}
use Rattle.qil_suspicions.specs.Adding.{is_of}
use Rattle.qil_suspicions.proofs.notes.Notes.number_of.Given as goal

abbrev pub invariant-loop-index : goal.invariant-loop-index
invariant-loop-index g l = (k : ℕ) (m : Note) → k < l.index → slice_get l.self k ≡ Some m → is_of m l.fn.kind l.place ≡ false
