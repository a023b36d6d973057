-- The goals of `fields` that the check leaves open.
use Rattle.std.proofs.Common.{sym, ◌∙◌}
use Rattle.std.proofs.lemmas.Result.{err_from_is_err_and}
use Rattle.qil_language.proofs.Loop.{separated_goes_on, separated_last, separated_stops}
use Rattle.qil_parser.specs.declared.terminal.Terminal.TheVariants as terminals
use Rattle.qil_parser.specs.Token.{index, seen}
use Rattle.qil_parser.specs.Parsing as parsing
use Rattle.qil_parser.specs.DataParsing as reading
use Rattle.qil_parser.proofs.Ends.{separated_ends, fewer_still, loose_comma}
use Rattle.qil_parser.proofs.DataProductions.{field_takes, comma_takes}
use Rattle.qil_parser.proofs.cursor.Cursor.fields.Goals as goal

pub each-smaller : goal.each-smaller
each-smaller g c = fewer_still _ _ _ (field_takes.fewer _ _ _ c.in_ok-item.ensures) (comma_takes.fewer _ _ _ (loose_comma (seen c.field.new.self.rest.now) (seen c.separator.new.self.rest.now) (seen c.newlines.new.self.rest.now) (c.separator.ensures (sym c.starts_with.ensures ∙ c.if-not-starts_with.false)) c.newlines.ensures))

pub each-preserved : goal.each-preserved
unfolding reading.fields_of
each-preserved g c = rw c.in_ok-push.ensures.items (separated_goes_on index (parsing.the terminals.Comma) reading.field_firsts (reading.loose (parsing.word terminals.Comma)) reading.field comma_takes field_takes _ _ _ _ _ _ (sym c.starts_field.ensures ∙ c.each-test.true) c.in_ok-item.ensures (sym c.starts_with.ensures ∙ c.if-not-starts_with.false) (loose_comma (seen c.field.new.self.rest.now) (seen c.separator.new.self.rest.now) (seen c.newlines.new.self.rest.now) (c.separator.ensures (sym c.starts_with.ensures ∙ c.if-not-starts_with.false)) c.newlines.ensures) c.each.invariant)

pub returns-then-not-starts_with : goal.returns-then-not-starts_with
unfolding reading.fields_of
returns-then-not-starts_with g c = rw (c.new.ensures, c.in_ok-push.ensures.items) (separated_last index (parsing.the terminals.Comma) reading.field_firsts (reading.loose (parsing.word terminals.Comma)) reading.field comma_takes field_takes _ _ _ _ _ (sym c.starts_field.ensures ∙ c.each-test.true) c.in_ok-item.ensures (sym c.starts_with.ensures ∙ c.if-not-starts_with.true) c.each.invariant)

pub returns-in_err-item : goal.returns-in_err-item
unfolding reading.fields_of
returns-in_err-item g c =
    let p = err_from_is_err_and c.from_residual.result c.from_residual.ensures.1 in
    rw (p.1, p.2) (separated_ends index (parsing.the terminals.Comma) reading.field_firsts (reading.loose (parsing.word terminals.Comma)) reading.field comma_takes field_takes c.in_err-item.field-0.0 _ _ _ _ (sym c.starts_field.ensures ∙ c.each-test.true) c.in_err-item.ensures c.each.invariant)

pub returns : goal.returns
unfolding reading.fields_of
returns g c = rw c.new-2.ensures (separated_stops index (parsing.the terminals.Comma) reading.field_firsts (reading.loose (parsing.word terminals.Comma)) reading.field comma_takes field_takes _ _ _ (sym c.starts_field.ensures ∙ c.each-test.false) c.each.invariant)
