-- The bytes so far, and those of the items that are left, are all bytes.
use Rattle.std.proofs.Common.{◌≡◌, ◌++◌, drop}
use Rattle.std.specs.List.{flat_map}
use Rattle.qil_layout.specs.Layout.{item_bytes}
use Rattle.qil_symbols.specs.Tables.{value_at}
use Rattle.qil_layout_builder.proofs.fill.push_items.Given as goal

abbrev pub invariant-loop-item : goal.invariant-loop-item
invariant-loop-item g l = l.out.items ++ flat_map (item_bytes (value_at l.names.values) l.width) (drop l.item-index l.items) ≡ l.fn.out.items ++ flat_map (item_bytes (value_at l.names.values) l.width) l.items
