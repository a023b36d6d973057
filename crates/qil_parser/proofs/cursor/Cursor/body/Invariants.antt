-- What the loop of `body` keeps.
use Rattle.std.proofs.Common.{◌≡◌, length}
use Rattle.qil_parser.specs.Token.{seen}
use Rattle.qil_parser.specs.FunctionParsing as functions
use Rattle.qil_parser.proofs.BodyLoop.{with_phis}
use Rattle.qil_parser.proofs.cursor.Cursor.body.Given as goal

abbrev pub invariant-each : goal.invariant-each
invariant-each g l = with_phis l.phis.items (functions.body (seen l.self.rest.now)) ≡ functions.body (seen l.fn.self.rest.now)

abbrev pub decreases-each : goal.decreases-each
decreases-each g l = length l.self.rest.now
