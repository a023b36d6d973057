-- Of no names none has a number.
use Rattle.qil_symbols.proofs.NumberLemmas.{unplaced}
use Rattle.qil_symbols.proofs.numbers.Numbers.new.Goals as goal

pub invariant_of-result : goal.invariant_of-result
invariant_of-result g c = unplaced c.with_hasher.result c.new.result.items c.with_hasher.ensures.empty c.new.ensures.items
