-- What the loop of `more_items` keeps.
use Rattle.std.proofs.Common.{◌≡◌, length, [], ◌∷◌}
use Rattle.qil_language.specs.Reading.{joined}
use Rattle.qil_parser.specs.Token.{seen}
use Rattle.qil_parser.specs.DataParsing as reading
use Rattle.qil_parser.proofs.cursor.Cursor.more_items.Given as goal

abbrev pub invariant-each : goal.invariant-each
invariant-each g l = joined l.items.items (reading.items_of l.width (seen l.self.rest.now)) ≡ joined (l.fn.first ∷ []) (reading.items_of l.fn.width (seen l.fn.self.rest.now))

abbrev pub decreases-each : goal.decreases-each
decreases-each g l = length l.self.rest.now
