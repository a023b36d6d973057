-- Each name so far has a place.
use Rattle.std.proofs.Common.{◌≡◌, ◌≢◌, List, ℕ, ◌<◌, Some, None, slice_get}
use Rattle.qil_checker.specs.Tables.{place_in}
use Rattle.qil_checker.proofs.phi_labels.all_known.Given as goal

abbrev pub invariant-loop-place : goal.invariant-loop-place
invariant-loop-place g l = (j : ℕ) (x : List ℕ) → j < l.place → slice_get l.names j ≡ Some x → place_in l.table.places x ≢ None
