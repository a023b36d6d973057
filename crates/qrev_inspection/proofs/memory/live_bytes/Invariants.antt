-- The bytes so far are live, and as many as offsets.
use Rattle.std.proofs.Common.{◌≡◌, ◌≤◌, length}
use Rattle.qil_memory.specs.Live.{live}
use Rattle.qrev_inspection.proofs.Reading.{AreLive}
use Rattle.qrev_inspection.proofs.memory.live_bytes.Given as goal

abbrev pub invariant-loop-offset : goal.invariant-loop-offset
invariant-loop-offset g l = record {
  within : l.offset ≤ l.most;
  counted : length l.bytes.items ≡ l.offset;
  read : AreLive (live (g.M.Readers.whole l.fn.machine).memory) l.start l.bytes.items;
}
