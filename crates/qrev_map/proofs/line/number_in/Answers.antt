-- The number of a line, from what was read of it.
use Rattle.std.proofs.Common.{ℕ, arith, refl, sym, Ok}
use Rattle.qrev_map.proofs.Numbers.{number_read}
use Rattle.qrev_map.proofs.line.number_in.Goals as goal

pub returns : goal.returns
returns c = number_read {E = ℕ} c.args.digits.now (Ok c.in-Ok.number) c.in-Ok.number (sym c.if-has_plus.ensures) c.in-Ok.ensures refl (omega (arith, c.if-number-eq0.false)) (omega (arith, c.if-number-from.false, c.from.ensures))
