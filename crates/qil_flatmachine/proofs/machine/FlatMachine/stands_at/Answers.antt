-- The innermost frame stands at the place of the innermost call.
use Rattle.std.proofs.Common.{◌∙◌}
use Rattle.qil_flatmachine.proofs.Viewing.{stands_there}
use Rattle.qil_flatmachine.proofs.machine.FlatMachine.stands_at.Goals as goal

pub returns : goal.returns
returns g c = λ f first. c.is_place.ensures ∙ stands_there _ _ _ _ _ _ _ c.in-Some.place f c.args.func.index c.args.block.index c.args.index c.self.view_is c.ip.ensures c.in-Some.ensures.place first
