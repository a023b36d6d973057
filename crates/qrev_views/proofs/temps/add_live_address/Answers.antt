-- Answers to the goals of `add_live_address`.
use Rattle.std.proofs.Common.{◌∙◌, ap, sym, ◌++◌, List}
use Rattle.std.specs.Prelude.{is_some}
use Rattle.std.proofs.lemmas.List.{append-nil}
use Rattle.json.specs.Token.{Token}
use Rattle.qil_memory.specs.Live.{live}
use Rattle.qrev_views.proofs.Rows.{live_is, live_none}
use Rattle.qrev_views.proofs.temps.add_live_address.Goals as goal

pub returns-then-is_none : goal.returns-then-is_none
returns-then-is_none g c =
    sym (append-nil c.args.variable.out.tokens)
    ∙ ap (λ (t : List Token). c.args.variable.out.tokens ++ t) (sym (live_none c.args.showing.has_references (live (g.M.Readers.whole c.args.machine.now).memory) c.args.value c.in-Some.address c.in-Some.is (ap is_some (sym c.byte_at.ensures) ∙ c.if-is_none.ensures)))

pub returns : goal.returns
returns g c =
    c.in_ok-variable.ensures
    ∙ ap (λ (t : List Token). c.args.variable.out.tokens ++ t) (sym (live_is c.args.showing.has_references (live (g.M.Readers.whole c.args.machine.now).memory) c.args.value c.in-Some.address c.in-Some.is (ap is_some (sym c.byte_at.ensures) ∙ c.if-is_none.ensures)))
