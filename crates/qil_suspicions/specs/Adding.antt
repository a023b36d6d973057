-- One suspicion more in the notes, by number; and notes by names.
use Rattle.std.specs.Prelude.{ℕ, ◌+◌, ◌-◌, ◌^◌, min, Bool, ◌==◌, ◌&&◌, if◌then◌else◌, List, [], ◌∷◌}
use Rattle.qil_tree.specs.declared.tree.Program.{Program}
use Rattle.qil_shadow.specs.declared.access.Kind.{Kind}
use Rattle.qil_shadow.specs.declared.suspicion.Place.{Place}
use Rattle.qil_shadow.specs.declared.suspicion.Suspicion.{Suspicion}
use Rattle.qil_shadow.specs.Doubts.{suspicion_named}
use Rattle.qil_suspicions.specs.declared.notes.Note.{Note}
use Rattle.qil_suspicions.specs.Notes as by_names
use Rattle.qil_suspicions.specs.Notes.{same_kind}

abbrev pub same_place : Place → Place → Bool
same_place a b = (a.func.index == b.func.index) && ((a.block.index == b.block.index) && a.index == b.index)

abbrev pub is_of : Note → Kind → Place → Bool
is_of n kind place = same_kind n.first.doubt.kind kind && same_place n.first.place place

-- a suspicion of a step from a place
abbrev pub at_place : Place → Suspicion → Suspicion
at_place place s = record s { place = place }

abbrev pub noted_once : Place → Suspicion → Note
noted_once place s = record { first = at_place place s; count = 1 }

-- no count passes this
abbrev pub once_more : Note → Note
once_more n = record n { count = min (n.count + 1) (2 ^ 64 - 1) }

abbrev pub with_note : Place → Suspicion → List Note → List Note
with_note place s [] = noted_once place s ∷ []
with_note place s (n ∷ ns) = if is_of n s.doubt.kind place then once_more n ∷ ns else n ∷ with_note place s ns

abbrev pub with_notes : Place → List Suspicion → List Note → List Note
with_notes place [] ns = ns
with_notes place (s ∷ ss) ns = with_notes place ss (with_note place s ns)

-- ---- by names

abbrev pub note_named : {A : Type 0} → Program A → Note → by_names.Note
note_named p n = record { first = suspicion_named p n.first; count = n.count }
