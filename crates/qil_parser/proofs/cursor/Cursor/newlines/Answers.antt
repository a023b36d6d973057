-- The goals of `newlines` that the check leaves open.
use Rattle.std.proofs.Common.{sym, ◌∙◌}
use Rattle.qil_parser.proofs.Ends.{newlines_continue, newlines_stop}
use Rattle.qil_parser.proofs.cursor.Cursor.newlines.Goals as goal

pub each-preserved : goal.each-preserved
each-preserved c = rw c.skip.ensures (newlines_continue _ (sym c.starts_with.ensures ∙ c.each-test.true) ∙ c.each.invariant)

pub returns : goal.returns
returns c = sym c.each.invariant ∙ newlines_stop _ (sym c.starts_with.ensures ∙ c.each-test.false)
