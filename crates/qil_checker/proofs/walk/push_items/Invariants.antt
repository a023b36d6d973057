-- The occurrences so far, and those of the items that are left, are all occurrences.
use Rattle.std.proofs.Common.{◌≡◌, ◌++◌, drop}
use Rattle.std.specs.List.{flat_map}
use Rattle.qil_rules.specs.Occurrences.{item_occurrences}
use Rattle.qil_checker.proofs.walk.push_items.Given as goal

abbrev pub invariant-loop-item : goal.invariant-loop-item
invariant-loop-item g l = l.out.items ++ flat_map (item_occurrences l.line) (drop l.item-index l.items) ≡ l.fn.out.items ++ flat_map (item_occurrences l.line) l.items
