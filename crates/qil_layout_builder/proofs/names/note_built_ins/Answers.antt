-- One name after the other.
use Rattle.qil_layout_builder.proofs.TableLemmas.{three_recorded}
use Rattle.qil_layout_builder.proofs.names.note_built_ins.Goals as goal

pub returns : goal.returns
returns g c = λ x. three_recorded _ _ _ _ _ _ _ (c.in_ok-note.ensures x) (c.in_ok-note-2.ensures x) (c.in_ok-note-3.ensures x)
