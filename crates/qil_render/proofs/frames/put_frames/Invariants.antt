-- The frames so far were put.
use Rattle.std.proofs.Common.{◌≡◌, drop}
use Rattle.qil_render.specs.Frames.{frame_lines}
use Rattle.qil_render.proofs.Reported.{Reported}
use Rattle.qil_render.proofs.frames.put_frames.Given as goal

abbrev pub invariant-loop-inner : goal.invariant-loop-inner
invariant-loop-inner g l = record {
  text : Reported (frame_lines (g.M.Readers.whole l.fn.machine).program (g.M.Readers.whole l.fn.machine).frames) (frame_lines (g.M.Readers.whole l.fn.machine).program (drop l.inner (g.M.Readers.whole l.fn.machine).frames)) (g.P.Put.written l.fn.out) (g.P.Put.written l.out);
  counted : g.P.Put.stops l.out ≡ g.P.Put.stops l.fn.out;
  device : g.P.Put.device l.out ≡ g.P.Put.device l.fn.out;
}
