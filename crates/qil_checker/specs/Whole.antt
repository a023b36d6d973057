-- The occurrences of the texts of a program.
use Rattle.std.specs.Prelude.{List, map}
use Rattle.qil_checker.specs.declared.definition.IndexedDefinition.{IndexedDefinition}
use Rattle.qil_rules.specs.declared.occurrence.Occurrence.{Occurrence}

abbrev pub occurrences_of : {A : Type 0} → List (IndexedDefinition A) → List (List Occurrence)
occurrences_of texts = map (λ t. t.occurrences.items) texts
