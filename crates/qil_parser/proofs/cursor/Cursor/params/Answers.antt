-- The goals of `params` that the check leaves open.
use Rattle.std.proofs.Common.{sym, ◌∙◌}
use Rattle.std.proofs.lemmas.Result.{err_from_is_err_and}
use Rattle.qil_language.proofs.Loop.{separated_goes_on, separated_last, separated_stops}
use Rattle.qil_parser.specs.declared.terminal.Terminal.TheVariants as terminals
use Rattle.qil_parser.specs.Token.{index}
use Rattle.qil_parser.specs.Parsing as parsing
use Rattle.qil_parser.specs.FunctionParsing as functions
use Rattle.qil_parser.proofs.Ends.{separated_ends, fewer_still}
use Rattle.qil_parser.proofs.Productions.{comma_takes}
use Rattle.qil_parser.proofs.FunctionProductions.{param_takes}
use Rattle.qil_parser.proofs.cursor.Cursor.params.Goals as goal

pub each-preserved : goal.each-preserved
unfolding functions.params
each-preserved g c = rw c.in_ok-push.ensures.items (separated_goes_on index (parsing.the terminals.Comma) parsing.types (parsing.word terminals.Comma) functions.param comma_takes param_takes _ _ _ _ _ _ (sym c.starts_type.ensures ∙ c.each-test.true) c.in_ok-item.ensures (sym c.starts_with.ensures ∙ c.if-not-starts_with.false) (c.separator.ensures (sym c.starts_with.ensures ∙ c.if-not-starts_with.false)) c.each.invariant)

pub returns-then-not-starts_with : goal.returns-then-not-starts_with
unfolding functions.params
returns-then-not-starts_with g c = rw (c.new.ensures, c.in_ok-push.ensures.items) (separated_last index (parsing.the terminals.Comma) parsing.types (parsing.word terminals.Comma) functions.param comma_takes param_takes _ _ _ _ _ (sym c.starts_type.ensures ∙ c.each-test.true) c.in_ok-item.ensures (sym c.starts_with.ensures ∙ c.if-not-starts_with.true) c.each.invariant)

pub returns-in_err-item : goal.returns-in_err-item
unfolding functions.params
returns-in_err-item g c =
    let p = err_from_is_err_and c.from_residual.result c.from_residual.ensures.1 in
    rw (p.1, p.2) (separated_ends index (parsing.the terminals.Comma) parsing.types (parsing.word terminals.Comma) functions.param comma_takes param_takes c.in_err-item.field-0.0 _ _ _ _ (sym c.starts_type.ensures ∙ c.each-test.true) c.in_err-item.ensures c.each.invariant)

pub returns : goal.returns
unfolding functions.params
returns g c = rw c.new-2.ensures (separated_stops index (parsing.the terminals.Comma) parsing.types (parsing.word terminals.Comma) functions.param comma_takes param_takes _ _ _ (sym c.starts_type.ensures ∙ c.each-test.false) c.each.invariant)

pub each-smaller : goal.each-smaller
each-smaller g c = fewer_still _ _ _ (param_takes.fewer _ _ _ c.in_ok-item.ensures) (comma_takes.fewer _ _ _ (c.separator.ensures (sym c.starts_with.ensures ∙ c.if-not-starts_with.false)))
