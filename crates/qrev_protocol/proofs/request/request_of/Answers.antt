-- The kind that a message has to have, and what else it has.
use Rattle.std.proofs.Common.{codes, rules, sym, ap, Some, ◌∙◌}
use Rattle.qrev_protocol.proofs.Names.{same_text}
use Rattle.qrev_protocol.proofs.request.request_of.Goals as goal

pub returns-clause-some : goal.returns-clause-some
returns-clause-some g c = record {
  kind = sym c.in_ok-text_of.ensures ∙ ap Some (same_text c.in_ok-text_of.field-0.now (codes "request") c.if-ne.ensures);
  seq = search rules;
  command = search rules;
}
