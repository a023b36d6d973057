-- The table's address of a name, or else that of the functions that are left, is its address.
use Rattle.std.proofs.Common.{◌≡◌, ◌+◌, ◌*◌, List, ℕ, drop}
use Rattle.std.specs.Option.{option_or}
use Rattle.qil_layout.specs.Layout.{func_address}
use Rattle.qil_symbols.specs.Tables.{value_at}
use Rattle.qil_layout_builder.proofs.names.note_funcs.Given as goal

abbrev pub invariant-loop-func : goal.invariant-loop-func
invariant-loop-func g l =
    ((x : List ℕ) → option_or (value_at l.table.values x) (func_address l.at (drop l.func-index l.funcs) x) ≡ option_or (value_at l.fn.table.values x) (func_address 4096 l.funcs x))
    × (l.at ≡ 4096 + 16 * l.func-index)
