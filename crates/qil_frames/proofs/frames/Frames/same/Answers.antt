use Rattle.qil_frames.proofs.Innermost.{same_reversed}
use Rattle.qil_frames.proofs.frames.Frames.same.Goals as goal

pub returns : goal.returns
returns g c = same_reversed c.same_frames.result c.self.inside.stack.items c.other.inside.stack.items _ _ c.args.self.now c.args.other.now c.as_slice.ensures.value c.as_slice-2.ensures.value c.self.view_is c.other.view_is c.same_frames.ensures
