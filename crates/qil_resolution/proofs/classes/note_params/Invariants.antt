-- The classes so far, with those of what is left, are all.
use Rattle.std.proofs.Common.{◌≡◌, List, ℕ, drop}
use Rattle.std.specs.Prelude.{map}
use Rattle.std.specs.Option.{option_or}
use Rattle.qil_symbols.specs.Tables.{value_at}
use Rattle.qil_resolution.specs.Classes.{param_target, first_class}
use Rattle.qil_resolution.proofs.classes.note_params.Given as goal

abbrev pub invariant-loop-param : goal.invariant-loop-param
invariant-loop-param g l = (x : List ℕ) → option_or (value_at l.table.values x) (first_class (map param_target (drop l.param-index l.params)) x) ≡ option_or (value_at l.fn.table.values x) (first_class (map param_target l.params) x)
