-- The first label of the occurrences that are left is the first of all.
use Rattle.std.proofs.Common.{◌≡◌, drop}
use Rattle.qil_checker.specs.Tables.{begun_label}
use Rattle.qil_checker.proofs.definition.first_label.Given as goal

abbrev pub invariant-loop-occurrence : goal.invariant-loop-occurrence
invariant-loop-occurrence l = begun_label (drop l.occurrence-index l.occurrences) ≡ begun_label l.occurrences
