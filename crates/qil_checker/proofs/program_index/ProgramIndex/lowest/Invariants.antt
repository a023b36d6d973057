-- The rules so far are kept.
use Rattle.std.proofs.Common.{◌<◌, ◌-◌}
use Rattle.qil_rules.specs.declared.rule.Rule.{Rule}
use Rattle.qil_rules.specs.Rules.{IsKept, order}
use Rattle.qil_checker.specs.Whole.{occurrences_of}
use Rattle.qil_checker.proofs.program_index.ProgramIndex.lowest.Given as goal

abbrev pub invariant-rules : goal.invariant-rules
invariant-rules g l = (lower : Rule) → order lower < order l.rule → IsKept lower (occurrences_of l.self.texts.items)

abbrev pub decreases-rules : goal.decreases-rules
decreases-rules g l = 12 - order l.rule
