-- The classes so far, with those of the names that are left, are all.
use Rattle.std.proofs.Common.{◌≡◌, ◌++◌, drop}
use Rattle.std.specs.Prelude.{map, unwrap_or}
use Rattle.qil_tree.specs.declared.ops.Class.TheVariants as classes
use Rattle.qil_symbols.specs.Numbers.{names_of}
use Rattle.qil_symbols.specs.Tables.{value_at}
use Rattle.qil_resolution.proofs.classes.listed.Given as goal

abbrev pub invariant-loop-name : goal.invariant-loop-name
invariant-loop-name g l = l.out.items ++ map (λ x. unwrap_or (value_at l.table.values x) classes.W) (names_of (drop l.name-index l.names)) ≡ map (λ x. unwrap_or (value_at l.table.values x) classes.W) (names_of l.names)
