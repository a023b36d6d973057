-- The type that a function returns.
use Rattle.qil_code.proofs.Readers.{coded, returns-there}
use Rattle.qil_code.proofs.code.Code.returns.Goals as goal

pub returns-in-Some : goal.returns-in-Some
returns-in-Some g c = returns-there c.args.self.now c.args.func.index c.in-Some.found.now (coded _ _ _ c.in-Some.ensures.code)
