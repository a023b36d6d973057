-- A text that begins as it has to is this beginning and the others of its bytes.
use Rattle.std.proofs.Common.{rules, sym, true, ◌∙◌, ◌≡◌, drop, length}
use Rattle.std.proofs.lemmas.Bool.Decides.{Decides-eqb}
use Rattle.std.proofs.lemmas.Slice.Eq.{starts_is}
use Rattle.qrev_notices.proofs.port.text_after.Goals as goal

pub returns-clause-text : goal.returns-clause-text
returns-clause-text g c =
    let begins : c.starts_with.result ≡ true = search rules in
    let prefix = (starts_is Decides-eqb c.as_slice.result.now c.args.start.now c.starts_with.result c.starts_with.ensures.value).0 begins in
    (drop (length c.args.start.now) c.as_slice.result.now, (c.in_ok-end.field-0.out.tokens, c.in_ok-text.ensures.text), sym c.as_slice.ensures.value ∙ prefix)
