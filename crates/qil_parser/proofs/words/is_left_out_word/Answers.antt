-- A text that is no constant is left out exactly if it is one of the table, which is the definition's.
use Rattle.std.proofs.Common.{◌∙◌, sym, ap, ◌||◌}
use Rattle.qil_parser.specs.Words.{is_one_of, left_out_word, left_out_words}
use Rattle.qil_parser.proofs.words.is_left_out_word.Goals as goal

pub returns-else-is_constant : goal.returns-else-is_constant
unfolding left_out_word
returns-else-is_constant c =
    c.is_one_of.ensures ∙ ap (λ b. b || is_one_of left_out_words c.args.text.now) (sym (sym c.is_constant.ensures ∙ c.if-is_constant.false))
