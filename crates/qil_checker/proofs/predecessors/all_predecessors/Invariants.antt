-- The lists so far with the predecessors among the occurrences that are left are all predecessors.
use Rattle.std.proofs.Common.{◌≡◌, List, ℕ, drop, ◌++◌}
use Rattle.qil_symbols.specs.Tables.{values_at}
use Rattle.qil_checker.specs.Tables.{predecessors_of}
use Rattle.qil_checker.proofs.predecessors.all_predecessors.Given as goal

abbrev pub invariant-loop-place : goal.invariant-loop-place
invariant-loop-place g l = (x : List ℕ) → values_at l.table.lists x ++ predecessors_of x (drop l.place l.occurrences) ≡ predecessors_of x l.occurrences
