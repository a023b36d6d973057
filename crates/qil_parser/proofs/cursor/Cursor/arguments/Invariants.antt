-- What the loop of `arguments` keeps.
use Rattle.std.proofs.Common.{◌≡◌, length}
use Rattle.qil_language.proofs.Loop.{with_prefix}
use Rattle.qil_parser.specs.Token.{seen}
use Rattle.qil_parser.specs.FunctionParsing as functions
use Rattle.qil_parser.proofs.cursor.Cursor.arguments.Given as goal

abbrev pub invariant-each : goal.invariant-each
invariant-each g l = with_prefix l.items.items (functions.arguments (seen l.self.rest.now)) ≡ functions.arguments (seen l.fn.self.rest.now)

abbrev pub decreases-each : goal.decreases-each
decreases-each g l = length l.self.rest.now
