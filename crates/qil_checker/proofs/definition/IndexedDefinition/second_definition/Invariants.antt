-- No occurrence so far defines a temporary again.
use Rattle.std.proofs.Common.{List, ℕ, ◌<◌}
use Rattle.qil_rules.specs.Text.{IsAgain}
use Rattle.qil_checker.proofs.definition.IndexedDefinition.second_definition.Given as goal

abbrev pub invariant-loop-place : goal.invariant-loop-place
invariant-loop-place g l = (j : ℕ) (x : List ℕ) → j < l.place → IsAgain l.self.occurrences.items j x → ⊥
