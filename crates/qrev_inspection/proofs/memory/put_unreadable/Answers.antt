-- Answers to the goals of `put_unreadable`.
use Rattle.std.proofs.Common.{ap, sym, ◌∙◌, ◌++◌, ◌∷◌, [], List, ℕ, codes, decimal}
use Rattle.std.proofs.lemmas.List.{append-nil}
use Rattle.json.specs.Token.{Token, key, number}
use Rattle.qrev_inspection.proofs.Reading.{none_unreadable, some_unreadable}
use Rattle.qrev_inspection.proofs.memory.put_unreadable.Goals as goal

pub returns-then-read-min : goal.returns-then-read-min
returns-then-read-min g c =
    sym (append-nil c.args.body.out.tokens) ∙ ap (λ (more : List Token). c.args.body.out.tokens ++ more) (sym (none_unreadable c.args.count c.args.read c.min.result c.min.ensures c.if-read-min.true))

pub returns : goal.returns
returns g c =
    c.in_ok-body.ensures ∙ ap (λ (more : List Token). c.args.body.out.tokens ++ more)
    (ap (λ (n : ℕ). key (codes "unreadableBytes") ∷ number (decimal n) ∷ []) c.saturating_sub.ensures ∙ sym (some_unreadable c.args.count c.args.read c.min.result c.min.ensures c.if-read-min.false))
