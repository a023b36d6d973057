-- The number of a name of a function that is there.
use Rattle.std.proofs.Common.{◌∙◌, ap, arith}
use Rattle.qil_symbols.specs.Numbers.{place_of}
use Rattle.qil_code.proofs.Readers.{coded, uncoded, labels-there, no-labels, no-place}
use Rattle.qil_code.proofs.code.Code.block_of.Goals as goal

pub overflow_cast-result : goal.overflow_cast-result
overflow_cast-result g c = omega (arith, c.in-Some-number.ensures.within, c.in-Some.ensures.few.1)

pub returns-in-Some-number : goal.returns-in-Some-number
returns-in-Some-number g c = c.in-Some-number.ensures.place ∙ ap (λ ns. place_of ns c.args.label.now) (labels-there c.args.self.now c.args.func.index c.in-Some.found.now (coded _ _ _ c.in-Some.ensures.code))

pub returns-in-None-number : goal.returns-in-None-number
returns-in-None-number g c = c.in-None-number.ensures.place ∙ ap (λ ns. place_of ns c.args.label.now) (labels-there c.args.self.now c.args.func.index c.in-Some.found.now (coded _ _ _ c.in-Some.ensures.code))

pub returns-in-None : goal.returns-in-None
returns-in-None g c = no-place _ c.args.label.now (no-labels c.args.self.now c.args.func.index (uncoded c.args.self.now c.args.func.index c.in-None.ensures.code))
