-- The goals of `skip` that the check leaves open.
use Rattle.qil_parser.proofs.Numbers.{numbers_left}
use Rattle.qil_parser.proofs.Strings.{strings_left}
use Rattle.qil_parser.proofs.cursor.Cursor.skip.Goals as goal

pub invariant_of-self : goal.invariant_of-self
invariant_of-self c = record { numbers = numbers_left c.args.self.now.rest.now c.args.self.now.numbers; strings = strings_left c.args.self.now.rest.now c.args.self.now.strings }
