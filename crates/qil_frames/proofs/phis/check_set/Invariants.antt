use Rattle.std.proofs.Common.{drop}
use Rattle.qil_frames.proofs.PhiLemmas.{Follows}
use Rattle.qil_frames.proofs.phis.check_set.Given as goal

abbrev pub invariant-loop-phi : goal.invariant-loop-phi
invariant-loop-phi l = Follows l.values l.moves (drop l.phi-index l.moves)
