-- Answers to the goals of `set_asked`.
use Rattle.std.proofs.Common.{sym, ◌∙◌}
use Rattle.std.proofs.lemmas.Bool.{false≢true}
use Rattle.std.proofs.lemmas.Result.{IfErr-weaker, IfOk-weaker}
use Rattle.qrev_inspection.proofs.Sets.{refused_as, set_as}
use Rattle.qrev_inspection.proofs.Spelling.{sigil_bytes, value_bytes}
use Rattle.qrev_inspection.proofs.setting.set_asked.Goals as goal

pub returns-then-has_newline-clause-refused : goal.returns-then-has_newline-clause-refused
returns-then-has_newline-clause-refused g c = record {
  reference = c.unwrap_or-reference.result;
  is_said = (c.number.result, c.number.ensures, c.unwrap_or-reference.ensures);
  refused = refused_as {A = g.row.A.Denot} (g.L.Debugged.state c.args.debuggee.now.recorder.live) c.args.debuggee.now.names.text.items c.unwrap_or-reference.result c.as_bytes-name.result.now _ c.as_bytes.result.now _ _ (c.as_bytes-name.ensures.value ∙ c.text_said.ensures) (c.as_bytes.ensures.value ∙ c.text_said-value.ensures)
      (λ one none is n says few. absurd (false≢true (sym (c.has_newline.ensures (sigil_bytes c.as_bytes-name.result.now is) (value_bytes c.as_bytes.result.now n says)) ∙ c.if-has_newline.true)));
}

pub returns-then-is_part-clause-refused : goal.returns-then-is_part-clause-refused
returns-then-is_part-clause-refused g c = record {
  reference = c.unwrap_or-reference.result;
  is_said = (c.number.result, c.number.ensures, c.unwrap_or-reference.ensures);
  refused = λ one. absurd (false≢true (sym (c.is_part.ensures one) ∙ c.if-is_part.true));
}

pub returns-clause-set : goal.returns-clause-set
returns-clause-set g c =
    IfOk-weaker c.set_in.result _ _
    (λ set is. record {
      reference = c.unwrap_or-reference.result;
      is_said = (c.number.result, c.number.ensures, c.unwrap_or-reference.ensures);
      set = set_as _ _ _ c.unwrap_or-reference.result c.as_bytes-name.result.now _ c.text_said-value.result.now _ (c.as_bytes-name.ensures.value ∙ c.text_said.ensures) c.text_said-value.ensures is;
    }) c.set_in.ensures.set

pub returns-clause-refused : goal.returns-clause-refused
returns-clause-refused g c =
    IfErr-weaker c.set_in.result _ _
    (λ why refused. record {
      reference = c.unwrap_or-reference.result;
      is_said = (c.number.result, c.number.ensures, c.unwrap_or-reference.ensures);
      refused = refused_as {A = g.row.A.Denot} (g.L.Debugged.state c.args.debuggee.now.recorder.live) c.args.debuggee.now.names.text.items c.unwrap_or-reference.result c.as_bytes-name.result.now _ c.text_said-value.result.now _ why (c.as_bytes-name.ensures.value ∙ c.text_said.ensures) c.text_said-value.ensures refused;
    }) c.set_in.ensures.refused
