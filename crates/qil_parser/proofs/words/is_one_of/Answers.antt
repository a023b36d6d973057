-- The first word that is the text is one of them.
use Rattle.std.proofs.Common.{◌∙◌, sym}
use Rattle.qil_parser.proofs.Tables.{word_found}
use Rattle.qil_parser.proofs.words.is_one_of.Goals as goal

pub returns-then-eq : goal.returns-then-eq
returns-then-eq c = word_found (λ word. word.now) c.args.table.now c.loop-word.word-index _ c.args.text.now c.loop-word-test.true (sym c.eq.ensures ∙ c.if-eq.true) c.loop-word.invariant
