-- What search would try in vain at first is answered here at once.
use Rattle.std.proofs.Common.{arith}
use Rattle.std.proofs.lemmas.Grind.{common_steps}
use borrow.Author.Differences.{ints}
use Rattle.qil_ops.proofs.division.quotient_of_words.Goals as goal

pub returns-then-divisor-eq0-clause-value : goal.returns-then-divisor-eq0-clause-value
returns-then-divisor-eq0-clause-value c = grind (ints, arith, common_steps)

pub returns-then-divisor-eq0-clause-fits : goal.returns-then-divisor-eq0-clause-fits
returns-then-divisor-eq0-clause-fits c = grind (ints, arith, common_steps)

pub returns-then-overflows-clause-value : goal.returns-then-overflows-clause-value
returns-then-overflows-clause-value c = grind (ints, arith, common_steps)

pub returns-then-overflows-clause-fits : goal.returns-then-overflows-clause-fits
returns-then-overflows-clause-fits c = grind (ints, arith, common_steps)

pub nonzero_div-dividend : goal.nonzero_div-dividend
nonzero_div-dividend c = grind (ints, arith, common_steps)

pub returns-clause-value : goal.returns-clause-value
returns-clause-value c = grind (ints, arith, common_steps)

pub returns-clause-fits : goal.returns-clause-fits
returns-clause-fits c = grind (ints, arith, common_steps)
