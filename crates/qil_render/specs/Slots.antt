-- Lines of values in numbered slots.
use Rattle.std.specs.Prelude.{ℕ, List, [], ◌∷◌, ◌++◌, Option}
use Rattle.qil_semantics.specs.State.{Name}
use Rattle.qil_render.specs.Texts.{value_line}

-- a line for each slot, under the name next to it
abbrev pub slot_lines : List Name → List (Option ℕ) → List ℕ
slot_lines [] values = []
slot_lines (name ∷ names) [] = []
slot_lines (name ∷ names) (value ∷ values) = value_line name value ++ slot_lines names values
