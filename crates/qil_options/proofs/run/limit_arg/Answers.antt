-- Which numbers are taken, by hand: where they are others, the types differ.
use Rattle.std.proofs.Common.{◌≡◌, ◌∙◌, ap, Some}
use Rattle.clap.specs.declared.builder.value_parser.ValueParser.TheVariants.{Unsigned}
use Rattle.qil_options.proofs.run.limit_arg.Goals as goal

pub returns-clause-values : goal.returns-clause-values
returns-clause-values c =
    let taken : c.range.result ≡ Unsigned 1 4294967295 = rw c.value_parser.ensures at c.range.ensures in
    rw c.default_value.ensures (c.value_parser-2.ensures.given.1 ∙ ap Some (c.value_parser-2.ensures.given.2 ∙ taken))
