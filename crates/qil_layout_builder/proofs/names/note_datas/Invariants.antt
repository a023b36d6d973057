-- The table's address of a name, or else that of the objects that are left, is its address.
use Rattle.std.proofs.Common.{◌≡◌, ◌≤◌, List, ℕ, drop}
use Rattle.std.specs.Option.{option_or}
use Rattle.qil_layout.specs.Layout.{data_address, fault_from}
use Rattle.qil_symbols.specs.Tables.{value_at}
use Rattle.qil_layout_builder.proofs.names.note_datas.Given as goal

abbrev pub invariant-loop-object : goal.invariant-loop-object
invariant-loop-object g l =
    ((x : List ℕ) → option_or (value_at l.table.values x) (data_address l.at (drop l.object-index l.datas) x) ≡ option_or (value_at l.fn.table.values x) (data_address 65536 l.datas x))
    × (fault_from l.at (drop l.object-index l.datas) ≡ fault_from 65536 l.datas)
    × (l.at ≤ 1114112)
