-- Answers to the goals of `put_data`.
use Rattle.std.proofs.Common.{rules, arith, refl, sym, ap, ◌∙◌, [], ◌++◌, List, length, ◌≡◌, Some, append_assoc}
use Rattle.std.specs.Prelude.{slice_get}
use Rattle.std.proofs.lemmas.List.{append-nil}
use Rattle.std.proofs.lemmas.Option.{slice_get_read}
use Rattle.json.specs.Token.{Token}
use Rattle.qil_memory.specs.Live.{live}
use Rattle.qrev_views.specs.Variables.{ShowsData}
use Rattle.qrev_views.proofs.Each.{none_shown, item_shown, all_shown}
use Rattle.qrev_views.proofs.data.put_data.Goals as goal

pub loop-index-init : goal.loop-index-init
loop-index-init g c = record {
  begun = search rules;
  within = search rules;
  added = ([], none_shown _ _ c.of-first.result.0, sym (append-nil c.args.list.out.tokens));
}

pub loop-index-preserved : goal.loop-index-preserved
loop-index-preserved g c =
    let i = c.loop-index.index in
    let datas = c.args.program.now.datas in
    let here : slice_get datas i ≡ Some c.index-datas-index.result = slice_get_read datas (length datas) i c.index-datas-index.result refl (omega (arith, c.loop-index-test.true, rw c.as_slice-datas.ensures at c.of-first.ensures.after)) (rw c.as_slice-datas.ensures at c.index-datas-index.is) in
    let so_far = c.loop-index.invariant.added in
    let item = c.in_ok-list.ensures in
    record {
      begun = search rules;
      within = search rules;
      added = (
        so_far.0 ++ item.0,
        item_shown (ShowsData (g.M.Readers.whole c.args.machine.now).program (live (g.M.Readers.whole c.args.machine.now).memory) c.args.names.now.text.items c.args.showing) c.of-first.result.0 i datas c.index-datas-index.result so_far.0 item.0 c.loop-index.invariant.begun here so_far.1 item.1,
        item.2 ∙ (ap (λ (t : List Token). t ++ item.0) so_far.2 ∙ append_assoc c.args.list.out.tokens so_far.0 item.0),
      );
    }

pub returns : goal.returns
returns g c =
    let so_far = c.loop-index.invariant.added in (
      so_far.0,
      all_shown (ShowsData (g.M.Readers.whole c.args.machine.now).program (live (g.M.Readers.whole c.args.machine.now).memory) c.args.names.now.text.items c.args.showing) c.args.page c.of-first.result.0 c.of-first.result.1 c.loop-index.index c.args.program.now.datas so_far.0
          (rw c.as_slice-datas.ensures at c.of-first.ensures.first) (rw c.as_slice-datas.ensures at c.of-first.ensures.after) c.loop-index-test.false c.loop-index.invariant.within so_far.1,
      so_far.2,
    )
