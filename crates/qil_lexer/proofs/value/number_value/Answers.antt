-- Answers to the goals of `number_value`.
use Rattle.qil_lexer.proofs.Values.{number_digits}
use Rattle.qil_lexer.proofs.value.number_value.Goals as goal

pub decimal-requires-else-text-eq45-clause-digits : goal.decimal-requires-else-text-eq45-clause-digits
decimal-requires-else-text-eq45-clause-digits c = number_digits c.args.text.now c.requires.shape c.if-text-eq45.false
