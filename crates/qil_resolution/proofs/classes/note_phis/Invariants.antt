-- The classes so far, with those of what is left, are all.
use Rattle.std.proofs.Common.{◌≡◌, List, ℕ, drop}
use Rattle.std.specs.Prelude.{map}
use Rattle.std.specs.Option.{option_or}
use Rattle.qil_symbols.specs.Tables.{value_at}
use Rattle.qil_resolution.specs.Classes.{first_class}
use Rattle.qil_resolution.proofs.classes.note_phis.Given as goal

abbrev pub invariant-loop-phi : goal.invariant-loop-phi
invariant-loop-phi g l = (x : List ℕ) → option_or (value_at l.table.values x) (first_class (map (λ phi. phi.target) (drop l.phi-index l.phis)) x) ≡ option_or (value_at l.fn.table.values x) (first_class (map (λ phi. phi.target) l.phis) x)
