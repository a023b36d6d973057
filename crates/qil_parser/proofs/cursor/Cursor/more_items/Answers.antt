-- The goals of `more_items` that the check leaves open.
use Rattle.std.proofs.Common.{sym, ◌∙◌}
use Rattle.std.proofs.lemmas.Result.{err_from_is_err_and}
use Rattle.qil_language.proofs.Loop.{many_goes_on, many_stops}
use Rattle.qil_parser.specs.Token.{index}
use Rattle.qil_parser.specs.DataParsing as reading
use Rattle.qil_parser.proofs.Ends.{many_ends, fewer_left}
use Rattle.qil_parser.proofs.DataProductions.{item_takes}
use Rattle.qil_parser.proofs.cursor.Cursor.more_items.Goals as goal

pub each-smaller : goal.each-smaller
each-smaller g c = fewer_left _ _ ((item_takes c.args.width).fewer _ _ _ c.in_ok-item.ensures)

pub each-preserved : goal.each-preserved
unfolding reading.items_of
each-preserved g c = rw c.in_ok-push-2.ensures.items (many_goes_on index (reading.item_firsts c.args.width) (reading.item c.args.width) (item_takes c.args.width) _ _ _ _ _ (sym c.starts_item.ensures ∙ c.each-test.true) c.in_ok-item.ensures c.each.invariant)

pub returns-in_err-item : goal.returns-in_err-item
unfolding reading.items_of
returns-in_err-item g c =
    let p = err_from_is_err_and c.from_residual-in_err-item.result c.from_residual-in_err-item.ensures.1 in
    rw (p.1, p.2) (many_ends index (reading.item_firsts c.args.width) (reading.item c.args.width) (item_takes c.args.width) c.in_err-item.field-0.0 _ _ _ _ (sym c.starts_item.ensures ∙ c.each-test.true) c.in_err-item.ensures c.each.invariant)

pub returns : goal.returns
unfolding reading.items_of
returns g c = rw c.new.ensures (many_stops index (reading.item_firsts c.args.width) (reading.item c.args.width) (item_takes c.args.width) _ _ _ (sym c.starts_item.ensures ∙ c.each-test.false) c.each.invariant)
