-- The slots of a new frame, and what arguments pass to it.
use Rattle.std.specs.Prelude.{ℕ, List, [], ◌∷◌, map, slice_set, Option, Some}
use Rattle.qil_tree.specs.declared.ops.AbiType.{AbiType}
use Rattle.qil_semantics.specs.Values.{fit}
use Rattle.qil_code.specs.declared.numbered.Slot.{Slot}
use Rattle.qil_code.specs.declared.numbered.NumberedArgument.{NumberedArgument}
use Rattle.qil_state.specs.Values.{argument_value}

-- slots in which each parameter is set to the value next to it, as its type has it, one after the other
abbrev pub begun_slots : List (Slot × AbiType) → List ℕ → List (Option ℕ) → List (Option ℕ)
begun_slots [] vs slots = slots
begun_slots (q ∷ qs) [] slots = slots
begun_slots (q ∷ qs) (v ∷ vs) slots = begun_slots qs vs (slice_set slots q.0.index (Some (fit q.1 v)))

-- what arguments pass out of slots: each as the type that is written at it has it
abbrev pub passed_value : List (Option ℕ) → NumberedArgument → ℕ
passed_value slots a = fit a.abi_type (argument_value slots a)

abbrev pub passed_values : List (Option ℕ) → List NumberedArgument → List ℕ
passed_values slots args = map (passed_value slots) args
