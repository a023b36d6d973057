-- Where a label comes next, the jump goes to it: by hand, so that another token is refused at once.
use Rattle.std.proofs.Common.{◌∙◌, sym}
use Rattle.qil_parser.proofs.Ends.{falls_through}
use Rattle.qil_parser.proofs.cursor.Cursor.ending.Goals as goal

pub returns-in-len1-up : goal.returns-in-len1-up
returns-in-len1-up c = falls_through c.args.self.now.rest.now _ _ (sym c.starts_jump.ensures ∙ c.if-starts_jump.false) (sym c.starts_with.ensures ∙ c.if-starts_with.true) c.token_name.ensures
