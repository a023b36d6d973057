-- The bytes so far were put.
use Rattle.std.proofs.Common.{◌≡◌, ◌+◌, ◌-◌}
use Rattle.qil_memory.specs.Live.{live}
use Rattle.qil_state.specs.State.{state_of}
use Rattle.qil_render.specs.Shown.{memory_shown}
use Rattle.qil_render.proofs.Reported.{Reported}
use Rattle.qil_render.proofs.MemoryBytes.{later_bytes}
use Rattle.qil_render.proofs.bytes.put_memory.Given as goal

abbrev pub invariant-loop-offset : goal.invariant-loop-offset
invariant-loop-offset g l = record {
  text : Reported (memory_shown (state_of (g.M.Readers.whole l.fn.machine)) l.fn.address l.fn.count) (later_bytes (live (g.M.Readers.whole l.fn.machine).memory) (l.fn.address + l.offset) (l.fn.count - l.offset)) (g.P.Put.written l.fn.out) (g.P.Put.written l.out);
  counted : g.P.Put.stops l.out ≡ g.P.Put.stops l.fn.out;
  device : g.P.Put.device l.out ≡ g.P.Put.device l.fn.out;
}
