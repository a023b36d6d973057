-- The table's number of a name, or else that of the data that are left, is its number.
use Rattle.std.proofs.Common.{◌≡◌, List, ℕ, drop}
use Rattle.std.specs.Option.{option_or}
use Rattle.qil_symbols.specs.Tables.{value_at}
use Rattle.qil_shadow.specs.ObjectNumbers.{data_number}
use Rattle.qil_shadow.proofs.names.note_datas.Given as goal

abbrev pub invariant-loop-object : goal.invariant-loop-object
invariant-loop-object g l =
    ((x : List ℕ) → option_or (value_at l.table.values x) (data_number l.number (drop l.object-index l.datas) x) ≡ option_or (value_at l.fn.table.values x) (data_number 0 l.datas x))
    × (l.number ≡ l.object-index)
