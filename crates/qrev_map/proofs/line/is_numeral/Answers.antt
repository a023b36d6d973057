-- Digits, one at least.
use Rattle.qrev_map.proofs.Fields.{digits_are, digits_pass, some_bytes}
use Rattle.qrev_map.proofs.line.is_numeral.Goals as goal

pub returns-then-not-is_empty : goal.returns-then-not-is_empty
returns-then-not-is_empty c = (
  λ told. (some_bytes c.args.bytes.now c.if-not-is_empty.ensures, digits_are c.args.bytes.now c.are_digits.result c.are_digits.ensures told),
  λ numeral. digits_pass c.args.bytes.now c.are_digits.result c.are_digits.ensures numeral.1,
)
