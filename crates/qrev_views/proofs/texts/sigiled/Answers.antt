-- Answers to the goals of `sigiled`.
use Rattle.std.proofs.Common.{ap, sym, ◌++◌, ℕ, List}
use Rattle.std.proofs.lemmas.List.{append-nil}
use Rattle.qrev_views.specs.Texts.{shown_text}
use Rattle.qrev_views.proofs.texts.sigiled.Goals as goal

pub returns : goal.returns
returns g c = rw (sym (ap (λ (text : List ℕ). shown_text (c.args.sigil.now ++ text)) (append-nil c.args.name.now))) c.joined.ensures
