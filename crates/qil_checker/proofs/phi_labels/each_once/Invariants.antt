-- Each name so far stands first at its own place.
use Rattle.std.proofs.Common.{◌≡◌, List, ℕ, ◌<◌, Some, slice_get}
use Rattle.qil_checker.specs.Tables.{first, is}
use Rattle.qil_checker.proofs.phi_labels.each_once.Given as goal

abbrev pub invariant-loop-place : goal.invariant-loop-place
invariant-loop-place g l = (j : ℕ) (x : List ℕ) → j < l.place → slice_get l.names j ≡ Some x → first (is x) 0 l.names ≡ Some j
