-- The goals of `links` that the check leaves open.
use Rattle.std.proofs.Common.{sym, ◌∙◌}
use Rattle.std.proofs.lemmas.Result.{err_from_is_err_and}
use Rattle.qil_language.proofs.Loop.{past_goes_on, past_stops}
use Rattle.qil_parser.specs.Token.{index}
use Rattle.qil_parser.specs.DataParsing as reading
use Rattle.qil_parser.proofs.Ends.{past_ends, fewer_left}
use Rattle.qil_parser.proofs.DataProductions.{link_takes}
use Rattle.qil_parser.proofs.cursor.Cursor.links.Goals as goal

pub each-smaller : goal.each-smaller
each-smaller c = fewer_left _ _ (link_takes.fewer _ _ _ c.in_ok-link.ensures)

pub each-preserved : goal.each-preserved
unfolding reading.links
each-preserved c = past_goes_on index reading.link_firsts reading.link link_takes _ _ _ (sym c.starts_link.ensures ∙ c.each-test.true) c.in_ok-link.ensures ∙ c.each.invariant

pub returns-in_err-link : goal.returns-in_err-link
unfolding reading.links
returns-in_err-link c =
    let p = err_from_is_err_and c.from_residual.result c.from_residual.ensures.1 in
    rw (p.1, p.2, sym c.each.invariant) (past_ends index reading.link_firsts reading.link link_takes c.in_err-link.field-0.0 _ _ (sym c.starts_link.ensures ∙ c.each-test.true) c.in_err-link.ensures)

pub returns : goal.returns
unfolding reading.links
returns c = sym c.each.invariant ∙ past_stops index reading.link_firsts reading.link link_takes _ (sym c.starts_link.ensures ∙ c.each-test.false)
