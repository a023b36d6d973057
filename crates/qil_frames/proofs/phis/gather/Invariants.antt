use Rattle.std.proofs.Common.{◌≡◌, drop}
use Rattle.qil_frames.specs.Enter.{gathered}
use Rattle.qil_frames.proofs.PhiLemmas.{behind}
use Rattle.qil_frames.proofs.phis.gather.Given as goal

abbrev pub invariant-loop-phi : goal.invariant-loop-phi
invariant-loop-phi g l = gathered l.values l.moves ≡ behind l.new.items (gathered l.values (drop l.phi-index l.moves))
