-- The items so far are noted.
use Rattle.std.proofs.Common.{◌≡◌, ◌+◌, ◌++◌, ◌≤◌, List, drop}
use Rattle.std.specs.List.{flat_map, sum_by}
use Rattle.qil_memory.specs.qil_layout.Layout.{data_base, item_size}
use Rattle.qil_shadow.specs.declared.origin.ByteOrigin.{ByteOrigin}
use Rattle.qil_shadow.specs.Objects.{object_named}
use Rattle.qil_shadow.specs.Shadow.{item_origins}
use Rattle.qil_shadow.specs.Spots.{origins_in}
use Rattle.qil_shadow.specs.Starting.{HasNoted}
use Rattle.qil_shadow.proofs.StartLemmas.{HasRest}
use Rattle.qil_shadow.proofs.start.note_items.Given as goal

abbrev pub invariant-loop-item : goal.invariant-loop-item
invariant-loop-item g l = record {
  low : data_base ≤ l.at;
  left : l.at + sum_by (item_size l.width) (drop l.item-index l.items) ≡ l.begin + sum_by (item_size l.width) l.items;
  noted : (bs : List ByteOrigin) → HasNoted bs l.begin (origins_in l.fn.memory)
      → HasRest (bs ++ flat_map (item_origins (object_named l.names) l.width) l.items) (flat_map (item_origins (object_named l.names) l.width) (drop l.item-index l.items)) l.at (origins_in l.memory);
}
