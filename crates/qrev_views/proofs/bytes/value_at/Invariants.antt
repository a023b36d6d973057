-- The last bytes, which are live, and their number.
use Rattle.std.proofs.Common.{◌≤◌, ◌+◌, ◌-◌}
use Rattle.qil_memory.specs.Live.{live}
use Rattle.qrev_views.proofs.ReadNumbers.{IsRead}
use Rattle.qrev_views.proofs.bytes.value_at.Given as goal

abbrev pub invariant-loop-done : goal.invariant-loop-done
invariant-loop-done g l = record {
  within : l.done ≤ l.width;
  read : IsRead (live (g.M.Readers.whole l.fn.machine).memory) (l.address + (l.width - l.done)) l.done l.value;
}
