-- Which maps are too long.
use Rattle.std.proofs.Common.{arith}
use Rattle.qrev_map.proofs.map.Map.parse.Goals as goal

pub returns-then-len-gt-MAP_LIMIT-clause-refused : goal.returns-then-len-gt-MAP_LIMIT-clause-refused
returns-then-len-gt-MAP_LIMIT-clause-refused g c = omega (arith, c.if-len-gt-MAP_LIMIT.true, c.len.ensures)
