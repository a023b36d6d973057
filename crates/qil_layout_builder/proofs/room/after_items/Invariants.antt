-- What is left, and the items that are still to come.
use Rattle.qil_layout.specs.Layout.{item_size}
use Rattle.qil_layout_builder.proofs.RoomLemmas.{IsOpen}
use Rattle.qil_layout_builder.proofs.room.after_items.Given as goal

abbrev pub invariant-loop-item : goal.invariant-loop-item
invariant-loop-item g l = IsOpen (item_size l.width) l.items l.room l.item-index l.left
