-- What the loop of `more_sources` keeps.
use Rattle.std.proofs.Common.{◌≡◌, length}
use Rattle.qil_language.proofs.Loop.{with_prefix}
use Rattle.qil_parser.specs.Token.{seen}
use Rattle.qil_parser.specs.FunctionParsing as functions
use Rattle.qil_parser.proofs.cursor.Cursor.more_sources.Given as goal

abbrev pub invariant-each : goal.invariant-each
invariant-each g l = with_prefix l.items.items (functions.more_sources (seen l.self.rest.now)) ≡ with_prefix l.fn.items.items (functions.more_sources (seen l.fn.self.rest.now))

abbrev pub decreases-each : goal.decreases-each
decreases-each g l = length l.self.rest.now
