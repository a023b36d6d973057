use Rattle.std.proofs.Common.{◌-◌, ◌∙◌, arith}
use Rattle.qil_frames.specs.Frames.{with_slot, at_index}
use Rattle.qil_frames.proofs.Innermost.{on_last, has_frame, last_held, twice_on_innermost}
use Rattle.qil_frames.proofs.frames.Frames.assign.Goals as goal

pub returns-clause-old : goal.returns-clause-old
returns-clause-old g c = c.assign.ensures.old ∙ last_held c.self.inside.stack.items c.args.self.now (c.len-last.result - 1) _ c.args.slot c.self.view_is (has_frame c.args.self.now c.args.slot c.requires) (omega arith) c.index_mut-frame.ensures.value

pub returns-clause-new : goal.returns-clause-new
returns-clause-new g c =
    on_last c.self.inside.stack.items c.args.self.now (λ f. at_index c.args.index (with_slot c.args.slot c.args.value f)) (c.len-last.result - 1) _ _ c.self.view_is (has_frame c.args.self.now c.args.slot c.requires) (omega arith) c.index_mut-frame.ensures.value c.assign.ensures.new
    ∙ twice_on_innermost (at_index c.args.index) (with_slot c.args.slot c.args.value) c.args.self.now
