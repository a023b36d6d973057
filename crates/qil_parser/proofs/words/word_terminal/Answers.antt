-- The table's answer, and for a text that isn't there no word.
use Rattle.std.proofs.Common.{◌∙◌, sym, ap}
use Rattle.qil_parser.specs.declared.terminal.Terminal.TheVariants as terminals
use Rattle.qil_parser.specs.Words.{or_else, word_terminal}
use Rattle.qil_parser.proofs.words.word_terminal.Goals as goal

pub returns-in-Some : goal.returns-in-Some
unfolding word_terminal
returns-in-Some c = sym (ap (λ o. or_else o terminals.Other) (sym c.next_to.ensures ∙ c.in-Some.is))

pub returns-in-None : goal.returns-in-None
unfolding word_terminal
returns-in-None c = sym (ap (λ o. or_else o terminals.Other) (sym c.next_to.ensures ∙ c.in-None.is))
