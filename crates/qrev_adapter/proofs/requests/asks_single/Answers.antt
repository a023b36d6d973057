-- Answers to the goals of `asks_single`.
use Rattle.std.proofs.Common.{ap, sym, ◌∙◌, []}
use Rattle.std.specs.Prelude.{codes, option_map, unwrap_or}
use Rattle.std.specs.Str.{bytes_eq}
use Rattle.qrev_adapter.proofs.requests.asks_single.Goals as goal

pub returns-in-Some : goal.returns-in-Some
returns-in-Some g c =
    c.eq.ensures ∙ ap (λ o. bytes_eq (unwrap_or o []) (codes "instruction")) (sym (ap (λ o. option_map (λ text. text.now) o) c.in-Some.is) ∙ c.text.ensures)

pub returns-in-None : goal.returns-in-None
returns-in-None g c = ap (λ o. bytes_eq (unwrap_or o []) (codes "instruction")) (sym (ap (λ o. option_map (λ text. text.now) o) c.in-None.is) ∙ c.text.ensures)
