use Rattle.std.proofs.Common.{◌≡◌, length, drop}
use Rattle.arrayvec.specs.ArrayVec.{array_vec_len}
use Rattle.qil_frames.specs.Enter.{gathered}
use Rattle.qil_frames.proofs.PhiLemmas.{behind}
use Rattle.qil_frames.proofs.phis.gather_short.Given as goal

abbrev pub invariant-loop-phi : goal.invariant-loop-phi
invariant-loop-phi l = record {
  done : gathered l.values l.moves ≡ behind l.new.items (gathered l.values (drop l.phi-index l.moves));
  room : array_vec_len l.new ≡ l.phi-index;
}
