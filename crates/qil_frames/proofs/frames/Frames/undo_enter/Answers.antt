use Rattle.std.proofs.Common.{◌-◌, arith}
use Rattle.qil_frames.specs.Enter.{returned}
use Rattle.qil_frames.proofs.Innermost.{on_last}
use Rattle.qil_frames.proofs.Entering.{fits_frame}
use Rattle.qil_frames.proofs.frames.Frames.undo_enter.Goals as goal

pub returns : goal.returns
returns g c = on_last c.self.inside.stack.items c.args.self.now (returned c.args.kept) (c.len-last.result - 1) _ _ c.self.view_is (fits_frame c.args.kept c.args.self.now c.requires) (omega arith) c.index_mut-frame.ensures.value c.undo_enter.ensures
