-- A word of numbers gives one.
use Rattle.std.proofs.Common.{arith}
use Rattle.qil_shadow.proofs.StoreLemmas.{load_numbers}
use Rattle.qil_shadow.proofs.region.Region.load.Goals as goal

pub returns-then-is_of_numbers : goal.returns-then-is_of_numbers
returns-then-is_of_numbers g c =
    load_numbers _ _ _ _ _ _ _ c.self.view_is c.index.ensures c.requires.some c.requires.there (omega (arith, c.if-at-count-le8.true)) c.if-is_of_numbers.true c.is_of_numbers.ensures
