-- The fields so far are noted.
use Rattle.std.proofs.Common.{◌≡◌, ◌+◌, ◌++◌, ◌≤◌, List, drop}
use Rattle.std.specs.List.{flat_map, sum_by}
use Rattle.qil_memory.specs.qil_layout.Layout.{data_base, field_size}
use Rattle.qil_shadow.specs.declared.origin.ByteOrigin.{ByteOrigin}
use Rattle.qil_shadow.specs.Objects.{object_named}
use Rattle.qil_shadow.specs.Shadow.{field_origins}
use Rattle.qil_shadow.specs.Spots.{origins_in}
use Rattle.qil_shadow.specs.Starting.{HasNoted}
use Rattle.qil_shadow.proofs.StartLemmas.{HasRest}
use Rattle.qil_shadow.proofs.start.note_fields.Given as goal

abbrev pub invariant-loop-field : goal.invariant-loop-field
invariant-loop-field g l = record {
  low : data_base ≤ l.at;
  left : l.at + sum_by field_size (drop l.field-index l.fields) ≡ l.begin + sum_by field_size l.fields;
  noted : (bs : List ByteOrigin) → HasNoted bs l.begin (origins_in l.fn.memory)
      → HasRest (bs ++ flat_map (field_origins (object_named l.names)) l.fields) (flat_map (field_origins (object_named l.names)) (drop l.field-index l.fields)) l.at (origins_in l.memory);
}
