-- One name after the other.
use Rattle.qil_shadow.proofs.NumberedNames.{built_ins_recorded}
use Rattle.qil_shadow.proofs.names.note_built_ins.Goals as goal

pub returns : goal.returns
returns g c = λ x.
    built_ins_recorded x _ _ _ _ _ _ _ c.in_ok-second.ensures c.in_ok-third.ensures (c.in_ok-note.ensures x) (c.in_ok-note-2.ensures x) (c.in_ok-note-3.ensures x)
