-- The bytes so far, and those of the objects that are left, are all bytes.
use Rattle.std.proofs.Common.{◌≡◌, ◌++◌, ◌≤◌, drop, None}
use Rattle.qil_layout.specs.Layout.{bytes_from, fault_from}
use Rattle.qil_symbols.specs.Tables.{value_at}
use Rattle.qil_layout_builder.proofs.fill.bytes_of.Given as goal

abbrev pub invariant-loop-object : goal.invariant-loop-object
invariant-loop-object g l =
    (l.out.items ++ bytes_from (value_at l.names.values) l.at (drop l.object-index l.datas) ≡ bytes_from (value_at l.names.values) 65536 l.datas)
    × (fault_from l.at (drop l.object-index l.datas) ≡ None)
    × (l.at ≤ 1114112)
