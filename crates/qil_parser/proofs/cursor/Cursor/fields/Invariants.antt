-- What the loop of `fields` keeps.
use Rattle.std.proofs.Common.{◌≡◌, length}
use Rattle.qil_language.specs.Reading.{joined}
use Rattle.qil_parser.specs.Token.{seen}
use Rattle.qil_parser.specs.DataParsing as reading
use Rattle.qil_parser.proofs.cursor.Cursor.fields.Given as goal

abbrev pub invariant-each : goal.invariant-each
invariant-each g l = joined l.items.items (reading.fields_of (seen l.self.rest.now)) ≡ reading.fields_of (seen l.fn.self.rest.now)

abbrev pub decreases-each : goal.decreases-each
decreases-each g l = length l.self.rest.now
