-- What the loop of `newlines` keeps.
use Rattle.std.proofs.Common.{◌≡◌, length}
use Rattle.qil_parser.specs.Token.{seen}
use Rattle.qil_parser.specs.DataParsing as reading
use Rattle.qil_parser.proofs.cursor.Cursor.newlines.Given as goal

abbrev pub invariant-each : goal.invariant-each
invariant-each l = reading.newlines (seen l.self.rest.now) ≡ reading.newlines (seen l.fn.self.rest.now)

abbrev pub decreases-each : goal.decreases-each
decreases-each l = length l.self.rest.now
