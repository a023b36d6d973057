-- The table's number of a name, or else that of the functions that are left, is its number.
use Rattle.std.proofs.Common.{◌≡◌, ◌+◌, List, ℕ, drop}
use Rattle.std.specs.Option.{option_or}
use Rattle.qil_symbols.specs.Tables.{value_at}
use Rattle.qil_shadow.specs.ObjectNumbers.{function_number}
use Rattle.qil_shadow.proofs.names.note_funcs.Given as goal

abbrev pub invariant-loop-func : goal.invariant-loop-func
invariant-loop-func g l =
    ((x : List ℕ) → option_or (value_at l.table.values x) (function_number l.number (drop l.func-index l.funcs) x) ≡ option_or (value_at l.fn.table.values x) (function_number l.first l.funcs x))
    × (l.number ≡ l.first + l.func-index)
