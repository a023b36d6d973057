-- What is left, and the fields that are still to come.
use Rattle.qil_layout.specs.Layout.{field_size}
use Rattle.qil_layout_builder.proofs.RoomLemmas.{IsOpen}
use Rattle.qil_layout_builder.proofs.room.after_fields.Given as goal

abbrev pub invariant-loop-field : goal.invariant-loop-field
invariant-loop-field g l = IsOpen field_size l.fields l.room l.field-index l.left
