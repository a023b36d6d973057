-- The number of a name of a function that is there.
use Rattle.std.proofs.Common.{◌∙◌, ap, arith}
use Rattle.qil_symbols.specs.Numbers.{place_of}
use Rattle.qil_code.proofs.Readers.{coded, uncoded, temps-there, no-names, no-place}
use Rattle.qil_code.proofs.code.Code.slot_of.Goals as goal

pub overflow_cast-result : goal.overflow_cast-result
overflow_cast-result g c = omega (arith, c.in-Some-number.ensures.within, c.in-Some.ensures.few.0)

pub returns-in-Some-number-clause-place : goal.returns-in-Some-number-clause-place
returns-in-Some-number-clause-place g c = c.in-Some-number.ensures.place ∙ ap (λ ns. place_of ns c.args.name.now) (temps-there c.args.self.now c.args.func.index c.in-Some.found.now (coded _ _ _ c.in-Some.ensures.code))

pub returns-in-None-number-clause-place : goal.returns-in-None-number-clause-place
returns-in-None-number-clause-place g c = c.in-None-number.ensures.place ∙ ap (λ ns. place_of ns c.args.name.now) (temps-there c.args.self.now c.args.func.index c.in-Some.found.now (coded _ _ _ c.in-Some.ensures.code))

pub returns-in-None-clause-place : goal.returns-in-None-clause-place
returns-in-None-clause-place g c = no-place _ c.args.name.now (no-names c.args.self.now c.args.func.index (uncoded c.args.self.now c.args.func.index c.in-None.ensures.code))
