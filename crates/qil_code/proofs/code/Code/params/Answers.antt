-- The parameters of a function that is there.
use Rattle.std.proofs.Common.{◌∙◌}
use Rattle.qil_code.proofs.Readers.{coded, params-there}
use Rattle.qil_code.proofs.code.Code.params.Goals as goal

pub returns-in-Some : goal.returns-in-Some
returns-in-Some g c = c.as_slice.ensures ∙ params-there c.args.self.now c.args.func.index c.in-Some.found.now (coded _ _ _ c.in-Some.ensures.code)
