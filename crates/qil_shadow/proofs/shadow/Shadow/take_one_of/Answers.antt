-- By the value.
use Rattle.std.proofs.Common.{◌∙◌, sym, arith}
use Rattle.qil_shadow.proofs.PassLemmas.{at_kept}
use Rattle.qil_shadow.proofs.JumpLemmas.{took_zero, took_set, alike_kept}
use Rattle.qil_shadow.proofs.CallInstLemmas.{given_rest}
use Rattle.qil_shadow.proofs.shadow.Shadow.take_one_of.Goals as goal
