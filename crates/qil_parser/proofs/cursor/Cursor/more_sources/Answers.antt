-- The goals of `more_sources` that the check leaves open.
use Rattle.std.proofs.Common.{sym, ◌∙◌}
use Rattle.std.proofs.lemmas.Result.{err_from_is_err_and}
use Rattle.qil_language.proofs.Loop.{many_goes_on, many_stops}
use Rattle.qil_parser.specs.declared.terminal.Terminal.TheVariants as terminals
use Rattle.qil_parser.specs.Token.{seen, index}
use Rattle.qil_parser.specs.Parsing as parsing
use Rattle.qil_parser.specs.FunctionParsing as functions
use Rattle.qil_parser.proofs.Ends.{many_ends, fewer_left}
use Rattle.qil_parser.proofs.FunctionProductions.{next_source_takes}
use Rattle.qil_parser.proofs.cursor.Cursor.more_sources.Goals as goal

pub each-preserved : goal.each-preserved
unfolding functions.more_sources
each-preserved g c = rw c.in_ok-push.ensures.items (many_goes_on index (parsing.the terminals.Comma) (parsing.after terminals.Comma functions.source) next_source_takes c.each.items.items (seen c.each.self.rest.now) _ _ _ (sym c.starts_with.ensures ∙ c.each-test.true) c.in_ok-item.ensures c.each.invariant)

pub returns : goal.returns
unfolding functions.more_sources
returns g c = rw c.new.ensures (many_stops index (parsing.the terminals.Comma) (parsing.after terminals.Comma functions.source) next_source_takes c.each.items.items (seen c.each.self.rest.now) _ (sym c.starts_with.ensures ∙ c.each-test.false) c.each.invariant)

pub returns-in_err-item : goal.returns-in_err-item
unfolding functions.more_sources
returns-in_err-item g c =
    let p = err_from_is_err_and c.from_residual.result c.from_residual.ensures.1 in
    rw (p.1, p.2) (many_ends index (parsing.the terminals.Comma) (parsing.after terminals.Comma functions.source) next_source_takes c.in_err-item.field-0.0 _ c.each.items.items (seen c.each.self.rest.now) _ (sym c.starts_with.ensures ∙ c.each-test.true) c.in_err-item.ensures c.each.invariant)

pub each-smaller : goal.each-smaller
each-smaller g c = fewer_left _ _ (next_source_takes.fewer (seen c.each.self.rest.now) _ _ c.in_ok-item.ensures)
