use Rattle.std.proofs.Common.{◌-◌, arith}
use Rattle.qil_frames.specs.Frames.{at_place}
use Rattle.qil_frames.proofs.Innermost.{on_last}
use Rattle.qil_frames.proofs.frames.Frames.set_place.Goals as goal

pub returns : goal.returns
returns g c = on_last c.self.inside.stack.items c.args.self.now (at_place c.args.block.index c.args.index) (c.len-last.result - 1) _ _ c.self.view_is c.requires (omega arith) c.index_mut-frame.ensures.value c.set_place.ensures
