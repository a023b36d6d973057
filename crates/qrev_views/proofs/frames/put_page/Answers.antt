-- Answers to the goals of `put_page`.
use Rattle.std.proofs.Common.{rules, arith, refl, sym, ap, ◌∙◌, ◌+◌, ◌≡◌, append_assoc, ◌++◌, [], List, length, drop, Some}
use Rattle.std.specs.Prelude.{min, slice_get}
use Rattle.std.proofs.lemmas.List.{append-nil}
use Rattle.json.specs.Token.{Token}
use Rattle.qil_state.specs.State.{frame_state, frames_state}
use Rattle.qrev_views.specs.Sources.{frame_line, origin_of}
use Rattle.qrev_views.proofs.ShownPlaces.{shows_frame}
use Rattle.qrev_views.proofs.Stacks.{frame_named, frames_long, nothing_yet, frame_more, frames_all}
use Rattle.qrev_views.proofs.frames.put_page.Goals as goal

pub loop-inner-init : goal.loop-inner-init
loop-inner-init g c = record {
  begun = search rules;
  within = search rules;
  added = ([], nothing_yet (c.args.page.start + 1) (frames_state (g.M.Readers.whole c.args.machine.now).program (g.M.Readers.whole c.args.machine.now).frames) c.of-first.result.0, sym (append-nil c.args.list.out.tokens));
}

pub loop-inner-preserved : goal.loop-inner-preserved
loop-inner-preserved g c =
    let p = (g.M.Readers.whole c.args.machine.now).program in
    let fs = (g.M.Readers.whole c.args.machine.now).frames in
    let i = c.loop-inner.inner in
    let so_far = c.loop-inner.invariant.added in
    let item = rw c.code_of-code.ensures at c.in_ok-list.ensures (drop (i + 1) fs) in
    let line = frame_line c.args.program.now c.frame_at-frame.result (i + 1) in
    record {
      begun = search rules;
      within = search rules;
      added = (
        so_far.0 ++ item.0,
        frame_more c.args.page.start c.of-first.result.0 i (frames_state p fs) (frame_state p (drop (i + 1) fs) c.frame_at-frame.result) so_far.0 item.0 (rw (frames_long p fs) (rw c.depth.ensures at c.of-first.ensures.first)) c.loop-inner.invariant.begun
            (frame_named p fs i c.frame_at-frame.result c.frame_at-frame.ensures) so_far.1 (shows_frame c.args.shown (origin_of c.args.source_map line) line (i + 1) (frame_state p (drop (i + 1) fs) c.frame_at-frame.result) item.0 item.1),
        item.2 ∙ (ap (λ (t : List Token). t ++ item.0) so_far.2 ∙ append_assoc c.args.list.out.tokens so_far.0 item.0),
      );
    }

pub returns : goal.returns
returns g c =
    let p = (g.M.Readers.whole c.args.machine.now).program in
    let fs = (g.M.Readers.whole c.args.machine.now).frames in
    let so_far = c.loop-inner.invariant.added in
    (so_far.0, frames_all c.args.page c.of-first.result.0 c.of-first.result.1 c.loop-inner.inner (frames_state p fs) so_far.0 (rw (frames_long p fs) (rw c.depth.ensures at c.of-first.ensures.first)) (rw (frames_long p fs) (rw c.depth.ensures at c.of-first.ensures.after)) c.loop-inner-test.false c.loop-inner.invariant.within so_far.1, so_far.2)
