-- Temporaries of the innermost call that are set one after the other.
use Rattle.std.specs.Prelude.{List, [], ◌∷◌}
use Rattle.qil_code.specs.declared.numbered.Slot.{Slot}
use Rattle.qil_shadow.specs.declared.origin.Origin.{Origin}
use Rattle.qil_shadow.specs.Calls.{LiveCalls, with_set}

abbrev pub with_all : List (Slot × Origin) → LiveCalls → LiveCalls
with_all [] l = l
with_all (q ∷ qs) l = with_all qs (with_set l q.0 q.1)
