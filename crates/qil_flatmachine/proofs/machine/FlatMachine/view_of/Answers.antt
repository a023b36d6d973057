-- The frame of the place that a call is at.
use Rattle.std.proofs.Common.{◌∙◌}
use Rattle.qil_flat.specs.Shown.{active_call}
use Rattle.qil_flatmachine.proofs.Viewing.{few_slots, never_lost, never_strange, viewed_is}
use Rattle.qil_flatmachine.proofs.machine.FlatMachine.view_of.Goals as goal

pub new-requires : goal.new-requires
new-requires g c =
    few_slots _ _ _ _ _ c.args.self.now (active_call c.args.call) c.in-Some.place _ _ c.self.view_is c.requires.fits c.code-numbered.ensures.code c.in-Some.ensures.place c.in-Some-func.ensures.code c.in-Some-func.ensures.few.0

pub unreachable-requires : goal.unreachable-requires
unreachable-requires g c = never_strange _ _ c.in-Some.place _ c.code-numbered.ensures.flat c.code-numbered.ensures.code c.in-Some.ensures.place c.in-None-func.ensures.code

pub unreachable-requires-in-None : goal.unreachable-requires-in-None
unreachable-requires-in-None g c = never_lost _ _ _ _ _ c.args.self.now c.args.call.ip c.self.view_is c.requires.there c.in-None.ensures.place

pub returns : goal.returns
returns g c = c.new.ensures ∙ viewed_is _ _ _ _ _ c.args.self.now (active_call c.args.call) c.in-Some.place c.self.view_is c.in-Some.ensures.place
