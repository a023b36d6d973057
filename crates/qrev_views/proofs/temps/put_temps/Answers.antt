-- Answers to the goals of `put_temps`.
use Rattle.std.proofs.Common.{rules, arith, ◌∙◌, ap, sym, ℕ, ◌+◌, List, [], ◌++◌, length, ◌<◌, ◌≡◌, drop, Some, None, Option, append_assoc}
use Rattle.std.specs.Prelude.{min, slice_get, get_or, ◌==◌}
use Rattle.std.proofs.lemmas.List.{append-nil}
use Rattle.std.proofs.lemmas.Option.{slice_get-get_or}
use Rattle.json.specs.Token.{Token}
use Rattle.qil_memory.specs.Live.{live}
use Rattle.qil_code.specs.Numbered.{names_of}
use Rattle.qil_code.specs.Facts.{Finds}
use Rattle.qil_state.specs.State.{frame_state, FrameFits}
use Rattle.qil_render.specs.Shown.{temps_of_frame}
use Rattle.qrev_views.proofs.Each.{none_shown, item_shown, all_shown}
use Rattle.qrev_views.proofs.Rows.{frame_fits, temp_shown, temp_named, temps_long, ShowsNamed}
use Rattle.qrev_views.proofs.temps.put_temps.Goals as goal

pub loop-index-init : goal.loop-index-init
loop-index-init g c = record {
  begun = search rules;
  within = search rules;
  added = λ k at. ([], none_shown _ _ c.of-first.result.0, sym (append-nil c.args.list.out.tokens));
}

pub loop-index-preserved : goal.loop-index-preserved
loop-index-preserved g c = record {
  begun = search rules;
  within = search rules;
  added = λ k at.
      let p = (g.M.Readers.whole c.args.machine.now).program in
      let f = c.args.frame.now in
      let fs = drop (k + 1) (g.M.Readers.whole c.args.machine.now).frames in
      let i = c.loop-index.index in
      let finds : Finds p = rw c.code_of.ensures at c.func-known.ensures.finds in
      let fits : FrameFits p f = frame_fits p (g.M.Readers.whole c.args.machine.now).frames k f c.frame-there.ensures.machine.frames at in
      let within : i < length f.slots = omega (arith, c.loop-index-test.true, rw c.slots-slots.ensures.value at c.of-first.ensures.after) in
      let x : List ℕ = get_or (names_of p f.func) i [] in
      let v : Option ℕ = get_or f.slots i None in
      let name : slice_get (names_of p f.func) i ≡ Some x = slice_get-get_or (names_of p f.func) i [] (omega (arith, within, fits.slots)) in
      let value : slice_get f.slots i ≡ Some v = slice_get-get_or f.slots i None within in
      let so_far = c.loop-index.invariant.added k at in
      let item = rw c.slots-slots.ensures.value at (c.in_ok-list.ensures x name) in (
        so_far.0 ++ item.0,
        item_shown (ShowsNamed p (live (g.M.Readers.whole c.args.machine.now).memory) c.args.names.now.text.items c.args.showing (c.args.number == 1) (frame_state p fs f)) c.of-first.result.0 i (temps_of_frame p (frame_state p fs f)) x so_far.0 item.0
            c.loop-index.invariant.begun (temp_named p fs f i x finds fits name) so_far.1
            (temp_shown p (live (g.M.Readers.whole c.args.machine.now).memory) c.args.names.now.text.items c.args.showing (c.args.number == 1) fs f i x v item.0 finds fits name value item.1),
        item.2 ∙ (ap (λ (t : List Token). t ++ item.0) so_far.2 ∙ append_assoc c.args.list.out.tokens so_far.0 item.0),
      );
}

pub returns : goal.returns
returns g c = λ k at.
    let p = (g.M.Readers.whole c.args.machine.now).program in
    let f = c.args.frame.now in
    let fs = drop (k + 1) (g.M.Readers.whole c.args.machine.now).frames in
    let finds : Finds p = rw c.code_of.ensures at c.func-known.ensures.finds in
    let fits : FrameFits p f = frame_fits p (g.M.Readers.whole c.args.machine.now).frames k f c.frame-there.ensures.machine.frames at in
    let long : length (temps_of_frame p (frame_state p fs f)) ≡ length f.slots = temps_long p fs f finds fits in
    let so_far = c.loop-index.invariant.added k at in (
      so_far.0,
      all_shown (ShowsNamed p (live (g.M.Readers.whole c.args.machine.now).memory) c.args.names.now.text.items c.args.showing (c.args.number == 1) (frame_state p fs f)) c.args.page c.of-first.result.0 c.of-first.result.1 c.loop-index.index
          (temps_of_frame p (frame_state p fs f)) so_far.0 (rw long (rw c.slots-slots.ensures.value at c.of-first.ensures.first)) (rw long (rw c.slots-slots.ensures.value at c.of-first.ensures.after)) c.loop-index-test.false c.loop-index.invariant.within so_far.1,
      so_far.2,
    )
