-- None of the last ones has the byte, as far as they were looked at.
use Rattle.std.proofs.Common.{ℕ, ◌+◌, ◌<◌, ◌≤◌, length, get_or}
use Rattle.qil_shadow.specs.Table.{Lacks}
use Rattle.qil_shadow.proofs.object.last_with.Given as goal

abbrev pub invariant-loop-back : goal.invariant-loop-back
invariant-loop-back l = (k : ℕ) → k < length l.numbers → length l.numbers ≤ k + l.back → Lacks l.address l.all (get_or l.numbers k 0)
