-- What is found so far is a copy, and not a later one.
use Rattle.std.proofs.Common.{◌≡◌, ◌≤◌, Some}
use Rattle.std.specs.Prelude.{slice_get}
use Rattle.qil_checkpoints.proofs.replaying.latest_copy.Given as goal

abbrev pub invariant-loop-index : goal.invariant-loop-index
invariant-loop-index l = record {
  there : slice_get l.positions l.found.index ≡ Some l.found.position;
  last : l.found.position ≤ l.last;
}
