-- One object more is noted, and has no fault.
use Rattle.std.proofs.Common.{◌+◌, drop}
use Rattle.qil_layout_builder.proofs.TableLemmas.{one_recorded, later_fault}
use Rattle.qil_layout_builder.proofs.OneMore.{left_from}
use Rattle.qil_layout_builder.proofs.names.note_datas.Goals as goal

pub loop-object-preserved : goal.loop-object-preserved
loop-object-preserved g c =
    let xs = c.args.datas.now in
    let d = c.object-item.result in
    let i = c.loop-object.object-index in
    let left = left_from xs i d c.loop-object-test.true c.object-item.is in (
      λ x. one_recorded _ _ _ c.loop-object.at _ _ _ x d _ (drop (i + 1) xs) left c.in-Ok.ensures.start c.in-Ok.ensures.end c.bytes.ensures (c.in_ok-note-in-Ok.ensures x) (c.loop-object.invariant.0 x),
      later_fault c.loop-object.at _ d _ (drop (i + 1) xs) _ left c.in-Ok.ensures.end c.in-Ok.ensures.no_fault c.loop-object.invariant.1,
      c.in-Ok.ensures.within,
    )
