-- The comma that comes next is passed.
use Rattle.qil_parser.specs.declared.terminal.Terminal.TheVariants as terminals
use Rattle.qil_parser.proofs.Ends.{word_passed}
use Rattle.qil_parser.proofs.cursor.Cursor.separator.Goals as goal

pub returns : goal.returns
returns c = λ h. rw c.skip.ensures (word_passed terminals.Comma c.args.self.now.rest.now h)
