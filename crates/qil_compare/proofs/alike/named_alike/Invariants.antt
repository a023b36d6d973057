-- At the numbers so far both have the same names.
use Rattle.qil_compare.specs.Coded.{AreNamedAlike}
use Rattle.qil_compare.proofs.alike.named_alike.Given as goal

abbrev pub invariant-loop-index : goal.invariant-loop-index
invariant-loop-index g l = AreNamedAlike l.image l.other l.index
