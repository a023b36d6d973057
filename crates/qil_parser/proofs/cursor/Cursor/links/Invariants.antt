-- What the loop of `links` keeps.
use Rattle.std.proofs.Common.{◌≡◌, length}
use Rattle.qil_parser.specs.Token.{seen}
use Rattle.qil_parser.specs.DataParsing as reading
use Rattle.qil_parser.proofs.cursor.Cursor.links.Given as goal

abbrev pub invariant-each : goal.invariant-each
invariant-each l = reading.links (seen l.self.rest.now) ≡ reading.links (seen l.fn.self.rest.now)

abbrev pub decreases-each : goal.decreases-each
decreases-each l = length l.self.rest.now
