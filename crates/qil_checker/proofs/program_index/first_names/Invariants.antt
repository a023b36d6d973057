-- The table's place of a name, or else its first place among the texts that are left, is its first place.
use Rattle.std.proofs.Common.{◌≡◌, List, ℕ, drop}
use Rattle.std.specs.Option.{option_or}
use Rattle.qil_checker.specs.Tables.{place_in, first, has_name}
use Rattle.qil_checker.specs.Whole.{occurrences_of}
use Rattle.qil_checker.proofs.program_index.first_names.Given as goal

abbrev pub invariant-loop-number : goal.invariant-loop-number
invariant-loop-number g l = (x : List ℕ) → option_or (place_in l.table.places x) (first (has_name x) l.number (occurrences_of (drop l.number l.texts))) ≡ first (has_name x) 0 (occurrences_of l.texts)
