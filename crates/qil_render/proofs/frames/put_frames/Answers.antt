-- Answers to the goals of `put_frames`.
use Rattle.std.proofs.Common.{◌+◌, ◌≤◌, ◌∙◌, drop, length, rules}
use Rattle.qil_state.specs.State.{frame_state}
use Rattle.qil_render.specs.Texts.{frame_line}
use Rattle.qil_render.specs.Frames.{frame_lines}
use Rattle.qil_render.proofs.Reported.{reported_as, reported_stop, reported_more, reported_all}
use Rattle.qil_render.proofs.ListLines.{frames_none, frames_some, frames_step, frames_end}
use Rattle.qil_render.proofs.frames.put_frames.Goals as goal

pub returns-in_default : goal.returns-in_default
returns-in_default g c = rw (frames_none (g.M.Readers.whole c.args.machine.now).program (g.M.Readers.whole c.args.machine.now).frames c.in_default.ensures.frame) c.put_line.ensures

pub returns-in_err-put_frame : goal.returns-in_err-put_frame
returns-in_err-put_frame g c =
    let p = (g.M.Readers.whole c.args.machine.now).program in
    let fs = (g.M.Readers.whole c.args.machine.now).frames in
    let i = c.loop-inner.inner in
    record {
      text = rw (frames_some p fs _ c.in-Some.ensures.frame)
          (reported_stop _ (frame_line (frame_state p (drop (i + 1) fs) c.frame_at.result)) (frame_lines p (drop (i + 1) fs)) _ _ _
          (reported_as _ _ _ _ _ (frames_step p fs i c.frame_at.result c.frame_at.ensures) c.loop-inner.invariant.text)
          _ _ c.from_residual.ensures.1 c.in_err-put_frame.field-0.0 (rw c.code_of-code.ensures at c.in_err-put_frame.ensures.text (drop (i + 1) fs)));
      counted = search rules;
      device = search rules;
    }

pub loop-inner-preserved : goal.loop-inner-preserved
loop-inner-preserved g c =
    let p = (g.M.Readers.whole c.args.machine.now).program in
    let fs = (g.M.Readers.whole c.args.machine.now).frames in
    let i = c.loop-inner.inner in
    record {
      text = reported_more _ (frame_line (frame_state p (drop (i + 1) fs) c.frame_at.result)) (frame_lines p (drop (i + 1) fs)) _ _ _
          (reported_as _ _ _ _ _ (frames_step p fs i c.frame_at.result c.frame_at.ensures) c.loop-inner.invariant.text)
          (rw c.code_of-code.ensures at c.in_ok-put_frame.ensures.text (drop (i + 1) fs));
      counted = c.in_ok-put_frame.ensures.counted ∙ c.loop-inner.invariant.counted;
      device = c.put_frame.ensures.device ∙ c.loop-inner.invariant.device;
    }

pub returns : goal.returns
returns g c =
    let p = (g.M.Readers.whole c.args.machine.now).program in
    let fs = (g.M.Readers.whole c.args.machine.now).frames in
    let i = c.loop-inner.inner in
    let all : length fs ≤ i = rw c.depth-inner-end.ensures at c.loop-inner-test.false in
    record {
      text = rw (frames_some p fs _ c.in-Some.ensures.frame)
          (reported_all _ _ _ (reported_as _ _ _ _ _ (frames_end p fs i all) c.loop-inner.invariant.text));
      counted = search rules;
      device = search rules;
    }
