-- The bytes so far were put.
use Rattle.std.proofs.Common.{◌≡◌, ◌+◌, ◌-◌}
use Rattle.qil_memory.specs.Live.{live}
use Rattle.qil_streams.specs.Text.{line}
use Rattle.qil_render.specs.Shown.{bytes_text}
use Rattle.qil_render.proofs.Reported.{Reported}
use Rattle.qil_compare.specs.Events.{bytes_from}
use Rattle.qil_comparison.proofs.Values.{later_bytes}
use Rattle.qil_comparison.proofs.event_text.put_bytes.Given as goal

abbrev pub invariant-loop-offset : goal.invariant-loop-offset
invariant-loop-offset g l = record {
  text : Reported (line (bytes_text (bytes_from (live (g.M.Readers.whole l.fn.machine).memory) l.fn.start l.fn.count))) (later_bytes (live (g.M.Readers.whole l.fn.machine).memory) (l.fn.start + l.offset) (l.fn.count - l.offset)) (g.P.Put.written l.fn.out) (g.P.Put.written l.out);
  counted : g.P.Put.stops l.out ≡ g.P.Put.stops l.fn.out;
  device : g.P.Put.device l.out ≡ g.P.Put.device l.fn.out;
}
