-- The bytes of one object more.
use Rattle.std.proofs.Common.{◌+◌, drop}
use Rattle.qil_symbols.specs.Tables.{value_at}
use Rattle.qil_layout_builder.proofs.TableLemmas.{later_fault}
use Rattle.qil_layout_builder.proofs.OneMore.{left_from, bytes_more}
use Rattle.qil_layout_builder.proofs.fill.bytes_of.Goals as goal

pub loop-object-preserved : goal.loop-object-preserved
loop-object-preserved g c =
    let xs = c.args.datas.now in
    let d = c.object-item.result in
    let i = c.loop-object.object-index in
    let left = left_from xs i d c.loop-object-test.true c.object-item.is in (
      bytes_more (value_at c.args.names.now.values) c.loop-object.at _ _ d _ (drop (i + 1) xs) _ _ _ _ _ left c.in-Ok.ensures.start c.in-Ok.ensures.end c.as_slice.ensures c.in_ok-push_zeros-in-Ok.ensures c.in_ok-push_fields-in-Ok.ensures c.loop-object.invariant.0,
      later_fault c.loop-object.at _ d _ (drop (i + 1) xs) _ left c.in-Ok.ensures.end c.in-Ok.ensures.no_fault c.loop-object.invariant.1,
      c.in-Ok.ensures.within,
    )
