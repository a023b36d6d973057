-- Answers to the goals of `put_frames`.
use Rattle.std.proofs.Common.{refl, sym, ◌∙◌, ◌≡◌, append_assoc, length}
use Rattle.qil_state.specs.State.{state_of}
use Rattle.qrev_views.specs.Frames.{stack_of, end_item}
use Rattle.qrev_views.proofs.Stacks.{frames_long, none_open, some_open}
use Rattle.qrev_views.proofs.frames.put_frames.Goals as goal

pub returns-then-count-eq0 : goal.returns-then-count-eq0
returns-then-count-eq0 g c =
    let s = state_of (g.M.Readers.whole c.args.machine.now) in
    let fs = (g.M.Readers.whole c.args.machine.now).frames in
    let count : length s.frames ≡ c.depth-count.result = frames_long (g.M.Readers.whole c.args.machine.now).program fs ∙ sym c.depth-count.ensures in (
      stack_of (end_item c.args.position s) 1,
      none_open c.args.position s s.frames c.args.page (count ∙ c.if-count-eq0.true),
      rw (c.in_ok-body.ensures, c.in_ok-end.ensures, c.in_ok-put_end.ensures, c.in_ok-list.ensures, append_assoc, append_assoc, append_assoc) refl,
    )

pub returns : goal.returns
returns g c =
    let s = state_of (g.M.Readers.whole c.args.machine.now) in
    let fs = (g.M.Readers.whole c.args.machine.now).frames in
    let page = c.in_ok-put_page.ensures in
    let count : length s.frames ≡ c.depth-count.result = frames_long (g.M.Readers.whole c.args.machine.now).program fs ∙ sym c.depth-count.ensures in (
      stack_of page.0 (length s.frames),
      some_open c.args.position s s.frames c.args.page page.0 (λ none. c.if-count-eq0.false (sym count ∙ none)) page.1,
      rw (c.in_ok-body-2.ensures, c.in_ok-end-2.ensures, page.2, c.in_ok-list.ensures, append_assoc, append_assoc, append_assoc, count) refl,
    )
