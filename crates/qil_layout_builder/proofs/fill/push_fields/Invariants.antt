-- The bytes so far, and those of the fields that are left, are all bytes.
use Rattle.std.proofs.Common.{◌≡◌, ◌++◌, drop}
use Rattle.std.specs.List.{flat_map}
use Rattle.qil_layout.specs.Layout.{field_bytes}
use Rattle.qil_symbols.specs.Tables.{value_at}
use Rattle.qil_layout_builder.proofs.fill.push_fields.Given as goal

abbrev pub invariant-loop-field : goal.invariant-loop-field
invariant-loop-field g l = l.out.items ++ flat_map (field_bytes (value_at l.names.values)) (drop l.field-index l.fields) ≡ l.fn.out.items ++ flat_map (field_bytes (value_at l.names.values)) l.fields
