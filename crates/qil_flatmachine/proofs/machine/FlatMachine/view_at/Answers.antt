-- The call from the outside is the frame from the outside.
use Rattle.std.proofs.Common.{arith}
use Rattle.qil_flatmachine.proofs.Viewing.{as_many, call_now, shown_now}
use Rattle.qil_flatmachine.proofs.machine.FlatMachine.view_at.Goals as goal

pub call_at-call-requires : goal.call_at-call-requires
call_at-call-requires g c = omega (arith, c.requires, as_many _ _ _ _ _ _ c.self.view_is)

pub view_of-requires-clause-there : goal.view_of-requires-clause-there
view_of-requires-clause-there g c = (call_now _ _ _ _ _ _ _ _ _ c.self.invariant c.self.view_is c.call_at-call.ensures).there

pub view_of-requires-clause-fits : goal.view_of-requires-clause-fits
view_of-requires-clause-fits g c = (call_now _ _ _ _ _ _ _ _ _ c.self.invariant c.self.view_is c.call_at-call.ensures).fits

pub returns-clause-frame : goal.returns-clause-frame
returns-clause-frame g c = shown_now _ _ _ _ _ _ c.args.outside _ _ c.self.view_is c.call_at-call.ensures c.view_of.ensures
