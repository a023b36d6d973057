-- One item more.
use Rattle.std.proofs.Common.{arith}
use Rattle.qil_layout.specs.Layout.{item_size}
use Rattle.qil_layout_builder.proofs.RoomLemmas.{one_more, too_little, all_left}
use Rattle.qil_layout_builder.proofs.room.after_items.Goals as goal

pub loop-item-preserved : goal.loop-item-preserved
loop-item-preserved g c =
    one_more (item_size c.args.width) c.args.items.now c.args.room c.loop-item.item-index c.loop-item.left c.in-Some.more c.item_size.result c.item-item.result c.loop-item.invariant (omega arith) c.item-item.is c.item_size.ensures c.in-Some.ensures

pub returns-in-None : goal.returns-in-None
returns-in-None g c =
    too_little (item_size c.args.width) c.args.items.now c.args.room c.loop-item.item-index c.loop-item.left c.item_size.result c.item-item.result c.loop-item.invariant (omega arith) c.item-item.is c.item_size.ensures c.in-None.ensures

pub returns : goal.returns
returns g c = all_left (item_size c.args.width) c.args.items.now c.args.room c.loop-item.item-index c.loop-item.left c.loop-item.invariant (omega arith)
