-- What a slot holds is what its temporary holds.
use Rattle.std.proofs.Common.{◌∙◌, ap, refl, sym}
use Rattle.qil_frames.specs.Frames.{held}
use Rattle.qil_flat.proofs.Placed.{held-frames}
use Rattle.qil_machine.proofs.Watching.{is_held}
use Rattle.qil_flatmachine.specs.Seen.{FlatWhole, place_in}
use Rattle.qil_flatmachine.proofs.Replacing.{machine_now}
use Rattle.qil_flatmachine.proofs.machine.FlatMachine.value.Goals as goal

pub returns-clause-named : goal.returns-clause-named
returns-clause-named g c = λ name at.
    is_held c.args.self.now.whole c.args.self.now.whole c.args.slot name c.get.result refl (machine_now _ _ _ _ _ _ c.args.self.now c.self.invariant c.self.view_is)
    (c.get.ensures ∙ sym (held-frames (place_in c.self.inside.code.now.places) c.self.inside.calls.frames c.args.slot) ∙ ap (λ (x : FlatWhole _). held x.whole.frames c.args.slot) c.self.view_is) at
