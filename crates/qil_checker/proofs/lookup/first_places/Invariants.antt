-- The table's place of a name, or else its first place among the occurrences that are left, is its first place.
use Rattle.std.proofs.Common.{◌≡◌, List, ℕ, drop}
use Rattle.std.specs.Option.{option_or}
use Rattle.qil_checker.specs.Tables.{place_in, first, is_named}
use Rattle.qil_checker.proofs.lookup.first_places.Given as goal

abbrev pub invariant-loop-place : goal.invariant-loop-place
invariant-loop-place g l = (x : List ℕ) → option_or (place_in l.table.places x) (first (is_named l.kind x) l.place (drop l.place l.occurrences)) ≡ first (is_named l.kind x) 0 l.occurrences
