-- No text so far breaks the rule, and its functions are counted.
use Rattle.std.proofs.Common.{◌≡◌, ◌<◌, take}
use Rattle.std.specs.List.{count_by}
use Rattle.qil_rules.specs.Rules.{Place, BreaksAt, is_function}
use Rattle.qil_checker.specs.Whole.{occurrences_of}
use Rattle.qil_checker.proofs.program_index.ProgramIndex.line_of.Given as goal

abbrev pub invariant-loop-number : goal.invariant-loop-number
invariant-loop-number g l =
    ((p : Place) → p.text < l.number → BreaksAt l.rule (occurrences_of l.self.texts.items) p → ⊥)
    × (l.functions ≡ count_by is_function (take l.number (occurrences_of l.self.texts.items)))
