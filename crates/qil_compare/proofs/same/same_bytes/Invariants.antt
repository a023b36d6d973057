-- The bytes so far are the same.
use Rattle.qil_memory.specs.Live.{live}
use Rattle.qil_compare.proofs.Sameness.{AreSameBytes}
use Rattle.qil_compare.proofs.same.same_bytes.Given as goal

abbrev pub invariant-loop-i : goal.invariant-loop-i
invariant-loop-i g l = AreSameBytes (live (g.M.Readers.whole l.left).memory) (live (g.M.Readers.whole l.right).memory) l.start l.second l.i
