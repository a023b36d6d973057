-- Answers to the goals of `as_text`.
use Rattle.std.proofs.Common.{◌∙◌, sym, arith}
use Rattle.qrev_views.proofs.ShownTexts.{shown_valid, shown_invalid}
use Rattle.qrev_views.proofs.texts.as_text.Goals as goal

pub returns-in-Ok : goal.returns-in-Ok
returns-in-Ok g c = rw (shown_valid c.args.bytes.now c.in-Ok.ensures.cases.1 ∙ sym c.in-Ok.ensures.cases.0) c.from_str.ensures.ok

pub returns-in-Err : goal.returns-in-Err
returns-in-Err g c = rw (shown_invalid c.args.bytes.now (omega (arith, c.in-Err.ensures.cases.1.short, c.in-Err.ensures.valid_len))) c.by_characters.ensures
