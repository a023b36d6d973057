-- The first row that has the text has the answer.
use Rattle.std.proofs.Common.{◌∙◌, sym}
use Rattle.qil_parser.proofs.Tables.{row_found}
use Rattle.qil_parser.proofs.words.next_to.Goals as goal

pub returns-then-eq : goal.returns-then-eq
returns-then-eq c = row_found (λ row. (row.0.now, row.1)) c.args.rows.now c.loop-row.row-index _ c.args.text.now c.loop-row-test.true (sym c.eq.ensures ∙ c.if-eq.true) c.loop-row.invariant
