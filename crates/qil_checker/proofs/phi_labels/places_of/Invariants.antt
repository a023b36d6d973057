-- The table's place of a name, or else its first place among the names that are left, is its first place.
use Rattle.std.proofs.Common.{◌≡◌, List, ℕ, drop}
use Rattle.std.specs.Option.{option_or}
use Rattle.qil_checker.specs.Tables.{place_in, first, is}
use Rattle.qil_checker.proofs.phi_labels.places_of.Given as goal

abbrev pub invariant-loop-place : goal.invariant-loop-place
invariant-loop-place g l = (x : List ℕ) → option_or (place_in l.table.places x) (first (is x) l.place (drop l.place l.names)) ≡ first (is x) 0 l.names
