-- One item more is noted.
use Rattle.std.proofs.Common.{arith, refl, ap, ◌∙◌, ◌+◌, ◌++◌, drop}
use Rattle.std.specs.List.{sum_by}
use Rattle.qil_memory.specs.qil_layout.Layout.{item_size}
use Rattle.qil_shadow.specs.Objects.{object_named}
use Rattle.qil_shadow.specs.Shadow.{item_origins}
use Rattle.qil_shadow.proofs.NumberedNames.{left_from}
use Rattle.qil_shadow.proofs.StartLemmas.{rest_first, one_noted, one_size, all_noted, all_sizes}
use Rattle.qil_shadow.proofs.start.note_items.Goals as goal

pub loop-item-init : goal.loop-item-init
loop-item-init g c = record { low = c.requires.low; left = refl; noted = λ bs was. rest_first bs _ _ _ was }

pub note_item-at-requires : goal.note_item-at-requires
note_item-at-requires g c =
    let xs = c.args.items.now in
    let left = left_from xs c.loop-item.item-index c.item-item.result c.loop-item-test.true c.item-item.is in
    let size = one_size (item_size c.args.width) xs c.loop-item.item-index c.item-item.result _ _ left c.loop-item.invariant.left in
    record { low = c.loop-item.invariant.low; fits = omega (arith, size, c.requires.fits) }

pub loop-item-preserved : goal.loop-item-preserved
loop-item-preserved g c =
    let xs = c.args.items.now in
    let left = left_from xs c.loop-item.item-index c.item-item.result c.loop-item-test.true c.item-item.is in
    let size = one_size (item_size c.args.width) xs c.loop-item.item-index c.item-item.result _ _ left c.loop-item.invariant.left in
    record {
      low = omega (arith, c.loop-item.invariant.low, c.note_item-at.ensures.next);
      left = ap (λ n. n + sum_by (item_size c.args.width) (drop (c.loop-item.item-index + 1) xs)) c.note_item-at.ensures.next ∙ size;
      noted = λ bs was. one_noted (item_origins (object_named c.args.names.now) c.args.width) xs _ _ _ _ _ _ _ left c.note_item-at.ensures.noted (c.loop-item.invariant.noted bs was);
    }

pub returns-clause-next : goal.returns-clause-next
returns-clause-next g c = all_sizes (item_size c.args.width) c.args.items.now _ _ _ (omega (arith, c.loop-item-test.false)) c.loop-item.invariant.left

pub returns-clause-noted : goal.returns-clause-noted
returns-clause-noted g c = λ bs was. all_noted (item_origins (object_named c.args.names.now) c.args.width) c.args.items.now _ _ _ _ (omega (arith, c.loop-item-test.false)) (c.loop-item.invariant.noted bs was)
