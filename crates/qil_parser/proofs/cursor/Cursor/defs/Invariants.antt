-- What the loop of `defs` keeps.
use Rattle.std.proofs.Common.{◌≡◌, length}
use Rattle.qil_language.specs.Reading.{image}
use Rattle.qil_parser.specs.Programs.{program_of}
use Rattle.qil_parser.proofs.Gathering.{extending}
use Rattle.qil_parser.specs.Token.{seen}
use Rattle.qil_parser.specs.DataParsing as reading
use Rattle.qil_parser.proofs.cursor.Cursor.defs.Given as goal

abbrev pub invariant-each : goal.invariant-each
invariant-each g l = extending l.parts (reading.defs (seen l.self.rest.now)) ≡ image program_of reading.defs (seen l.fn.self.rest.now)

abbrev pub decreases-each : goal.decreases-each
decreases-each g l = length l.self.rest.now
