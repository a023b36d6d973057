-- The goals of `dead_byte_comes_before_full_output` that the check leaves open.
use Rattle.std.proofs.Common.{refl}
use Rattle.qil_semantics.proofs.laws.dead_byte_comes_before_full_output.Goals as goal
use Rattle.qil_semantics.proofs.TextLemmas.{cut-at}

pub returns : goal.returns
returns c s f fs to a k h t = rw (cut-at s.memory a k h t) refl
