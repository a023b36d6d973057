-- What a call passes, by number: what its parameters get of the arguments next to them.
use Rattle.std.specs.Prelude.{◌≡◌, ℕ, List, [], ◌∷◌, map, zip, Option, Some, None, slice_get}
use Rattle.qil_tree.specs.declared.ops.AbiType.{AbiType}
use Rattle.qil_tree.specs.declared.tree.Argument.{Argument}
use Rattle.qil_tree.specs.declared.tree.Program.{Program}
use Rattle.qil_tree.specs.Types.{class_of}
use Rattle.qil_code.specs.declared.numbered.Slot.{Slot}
use Rattle.qil_code.specs.declared.numbered.NumberedArgument.{NumberedArgument}
use Rattle.qil_code.specs.Numbered.{names_of, operand_of, argument_of}
use Rattle.qil_shadow.specs.declared.origin.Origin.{Origin}
use Rattle.qil_shadow.specs.declared.constants.Reading.TheVariants as readings
use Rattle.qil_shadow.specs.declared.suspicion.Place.{Place}
use Rattle.qil_shadow.specs.Shadow.{Origins}
use Rattle.qil_shadow.specs.Shadowed.{operand_origin}
use Rattle.qil_shadow.specs.Reads.{IsRead}

-- the arguments of the tree at a place have this form by number, and each is read there
pub record AreArguments {A : Type 0} (p : Program A) (place : Place) (args : List NumberedArgument) (given : List Argument) : Type 0 where
  pub number : args ≡ map (argument_of p (names_of p place.func.index)) given
  pub read : (k : ℕ) (a : Argument) → slice_get given k ≡ Some a → IsRead p place (readings.Argument k) a.value (operand_of p (names_of p place.func.index) a.value)

abbrev pub argument_origin : {A : Type 0} → Program A → Origins → Argument → Origin
argument_origin p t a = operand_origin p t (class_of a.abi_type) a.value

-- what one parameter gets, if there is an argument next to it
abbrev pub one_passed : {A : Type 0} → Program A → Origins → Slot × AbiType → Option Argument → List (Slot × Origin)
one_passed p t q None = []
one_passed p t q (Some a) = (q.0, argument_origin p t a) ∷ []

abbrev pub passed_by : {A : Type 0} → Program A → Origins → List (Slot × AbiType) → List Argument → List (Slot × Origin)
passed_by p t params given = map (λ q. (q.0.0, argument_origin p t q.1)) (zip params given)
