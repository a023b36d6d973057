-- No text so far defines a temporary again.
use Rattle.std.proofs.Common.{◌<◌, List, ℕ}
use Rattle.qil_rules.specs.Rules.{Place}
use Rattle.qil_rules.specs.Forms.{IsAgainAt}
use Rattle.qil_checker.specs.Whole.{occurrences_of}
use Rattle.qil_checker.proofs.program_index.ProgramIndex.form.Given as goal

abbrev pub invariant-loop-text : goal.invariant-loop-text
invariant-loop-text g l = (p : Place) (x : List ℕ) → p.text < l.text-index → IsAgainAt (occurrences_of l.self.texts.items) p x → ⊥
