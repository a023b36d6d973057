-- Answers to the goals of `number_text`.
use Rattle.std.proofs.Common.{◌∙◌, sym, ap, decimal}
use Rattle.std.proofs.lemmas.List.{append-nil}
use Rattle.qrev_views.specs.Texts.{shown_text}
use Rattle.qrev_views.proofs.ShownTexts.{shown_decimal}
use Rattle.qrev_views.proofs.texts.number_text.Goals as goal

pub returns : goal.returns
returns g c = rw (sym (ap shown_text (append-nil (decimal c.args.number)) ∙ shown_decimal c.args.number c.ranges.number.fits)) c.joined.ensures
