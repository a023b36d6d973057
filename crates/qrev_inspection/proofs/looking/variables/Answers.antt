-- Answers to the goals of `variables`.
use Rattle.std.proofs.Common.{subst}
use Rattle.std.proofs.lemmas.Result.{IfErr-weaker, IfOk-weaker}
use Rattle.qrev_views.specs.declared.variable.Showing.{Showing}
use Rattle.qrev_inspection.specs.Requested.{ShowsVariables}
use Rattle.qrev_inspection.proofs.looking.variables.Goals as goal

pub returns-clause-shown : goal.returns-clause-shown
returns-clause-shown g c =
    let s = g.L.Debugged.state c.args.debuggee.now.recorder.live in
    IfOk-weaker c.variables_of.result _ _
    (λ o shown. record {
      reference = c.unwrap_or-reference.result;
      page = c.page_said-page.result;
      is_said = (c.number.result, c.number.ensures, c.unwrap_or-reference.ensures);
      is_page = c.page_said-page.ensures;
      shown = subst (λ (showing : Showing). ShowsVariables s c.args.debuggee.now.names.text.items showing c.unwrap_or-reference.result c.page_said-page.result c.args.body.out o.out) c.showing_said-showing.ensures shown;
    }) c.variables_of.ensures.shown

pub returns-clause-fails : goal.returns-clause-fails
returns-clause-fails g c =
    IfErr-weaker c.variables_of.result _ _ (λ why missing. (c.unwrap_or-reference.result, (c.number.result, c.number.ensures, c.unwrap_or-reference.ensures), missing)) c.variables_of.ensures.fails
