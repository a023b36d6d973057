-- The rule that takes memory.
use Rattle.std.proofs.Common.{sym, subst, IfOk, IsTrue, ◌↔◌}
use Rattle.qil_rules.specs.Rules.{Breaks}
use Rattle.qil_checker.specs.Whole.{occurrences_of}
use Rattle.qil_rules.specs.declared.rule.Rule.{Rule}
use Rattle.qil_checker.proofs.program_index.ProgramIndex.breaks.Goals as goal

pub returns-in-C8 : goal.returns-in-C8
returns-in-C8 g c =
    subst (λ (r : Rule). IfOk c.is_wrong_phi.result (λ b. IsTrue b ↔ Breaks r (occurrences_of c.args.self.now.texts.items) c.args.visit.now.text.now.occurrences.items c.args.visit.now.number c.args.place)) (sym c.in-C8.is) c.is_wrong_phi.ensures
