-- No occurrence so far breaks the rule, and the predecessors at hand are those of the block of the next.
use Rattle.std.proofs.Common.{ℕ, ◌<◌}
use Rattle.qil_rules.specs.Rules.{Breaks}
use Rattle.qil_symbols.specs.Tables.{kept}
use Rattle.qil_checker.specs.Tables.{AreAtHandFor}
use Rattle.qil_checker.specs.Whole.{occurrences_of}
use Rattle.qil_checker.proofs.program_index.ProgramIndex.first_breach.Given as goal

abbrev pub invariant-loop-place : goal.invariant-loop-place
invariant-loop-place g l =
    ((j : ℕ) → j < l.place → Breaks l.rule (occurrences_of l.self.texts.items) l.visit.text.now.occurrences.items l.visit.number j → ⊥)
    × AreAtHandFor l.rule l.visit.text.now.occurrences.items l.place (kept l.predecessors)
