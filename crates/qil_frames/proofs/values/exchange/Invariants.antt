use Rattle.qil_frames.proofs.Exchanging.{Exchanging}
use Rattle.qil_frames.proofs.values.exchange.Given as goal

abbrev pub invariant-loop-i : goal.invariant-loop-i
invariant-loop-i l = Exchanging l.fn.new l.new l.fn.values l.values l.i
