-- Slots next to their names, and values by number.
use Rattle.std.specs.Prelude.{◌≡◌, ℕ, ◌<◌, List, length, map, get_or, Option, Some, None, unwrap_or, Result, Ok, Err}
use Rattle.qil_tree.specs.declared.ops.Class.{Class}
use Rattle.qil_tree.specs.declared.ops.AbiType.{AbiType}
use Rattle.qil_tree.specs.declared.tree.Expr.{Expr}
use Rattle.qil_tree.specs.declared.tree.Program.{Program}
use Rattle.qil_tree.specs.Types.{class_of}
use Rattle.qil_rules.specs.Operands.{expr_reads}
use Rattle.qil_ops.specs.Values.{width, low_bits}
use Rattle.qil_memory.specs.Live.{Live}
use Rattle.qil_semantics.specs.State.{Name, Temps}
use Rattle.qil_semantics.specs.Slots.{slot_of}
use Rattle.qil_semantics.specs.Values.{Outcome, ◌>>=◌, vals, result_of}
use Rattle.qil_semantics.specs.Calls.{Shape}
use Rattle.qil_code.specs.declared.numbered.Slot.{Slot}
use Rattle.qil_code.specs.declared.numbered.NumberedOperand.{NumberedOperand}
use Rattle.qil_code.specs.declared.numbered.NumberedOperand.TheVariants as numbered_operands
use Rattle.qil_code.specs.declared.numbered.NumberedArgument.{NumberedArgument}
use Rattle.qil_code.specs.Slots.{name_at}
use Rattle.qil_state.specs.declared.status.Fault.{Fault}
use Rattle.qil_state.specs.Faults.{fault_of}

-- the names are distinct, and there is a slot for each
pub record AreSlots (ns : List Name) (vs : List (Option ℕ)) : Type 0 where
  pub distinct : (i : ℕ) → i < length ns → slot_of ns (name_at ns i) ≡ Some i
  pub long : length ns ≡ length vs

-- what an expression whose result has a class comes to: its operands, read from the left, and then its result
abbrev pub evaluated : {A : Type 0} → Program A → Live → Temps → Class → Expr → Outcome ℕ
evaluated p m temps c e = vals p temps (expr_reads c e) >>= result_of m c e

-- the slot of an operand, if it is unset
abbrev pub unless_set : Slot → Option ℕ → Option Slot
unless_set s (Some v) = None
unless_set s None = Some s

abbrev pub unset_in : List (Option ℕ) → NumberedOperand → Option Slot
unset_in vs (numbered_operands.Constant n) = None
unset_in vs (numbered_operands.Slot s) = unless_set s (get_or vs s.index None)

-- what an operand holds; of an unset slot 0
abbrev pub held_or_zero : List (Option ℕ) → NumberedOperand → ℕ
held_or_zero vs (numbered_operands.Constant n) = n
held_or_zero vs (numbered_operands.Slot s) = unwrap_or (get_or vs s.index None) 0

-- an argument in the class of the type that is written at it
abbrev pub argument_value : List (Option ℕ) → NumberedArgument → ℕ
argument_value vs a = low_bits (width (class_of a.abi_type)) (held_or_zero vs a.source)

abbrev pub argument_values : List (Option ℕ) → List NumberedArgument → List ℕ
argument_values vs args = map (argument_value vs) args

-- what comes of the arguments: these values, or the fault of one
abbrev pub reported_with : {X : Type 0} → List ℕ → List Name → Result X Fault → Outcome (List ℕ)
reported_with vs ns (Ok x) = Ok vs
reported_with vs ns (Err why) = Err (fault_of ns why)

-- the shape of a function with these parameters
abbrev pub shape_by : List (Slot × AbiType) → Option AbiType → Shape
shape_by params returns = record { params = map (λ q. q.1) params; returns = returns }
