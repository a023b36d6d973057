-- One item more.
use Rattle.qil_symbols.specs.Tables.{value_at}
use Rattle.qil_layout.specs.Layout.{item_bytes}
use Rattle.qil_layout_builder.proofs.OneMore.{one_more}
use Rattle.qil_layout_builder.proofs.fill.push_items.Goals as goal

pub loop-item-preserved : goal.loop-item-preserved
loop-item-preserved g c = one_more (item_bytes (value_at c.args.names.now.values) c.args.width) c.args.items.now c.loop-item.item-index c.item-item.result _ _ _ c.loop-item-test.true c.item-item.is c.in_ok-push_item.ensures c.loop-item.invariant
