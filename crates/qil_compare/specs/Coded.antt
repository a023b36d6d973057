-- What values and places in code are.
use Rattle.std.specs.Prelude.{◌≡◌, ℕ, ◌<◌, List, Option, Some, None, option_map, unwrap_or, slice_get}
use Rattle.qil_tree.specs.declared.tree.Program.{Program}
use Rattle.qil_semantics.specs.State.{Name}
use Rattle.qil_code.specs.Numbered.{func_at}
use Rattle.qil_code.specs.declared.numbered.Slot.{Slot}
use Rattle.qil_compare.specs.declared.seen.DataPlace.{DataPlace}
use Rattle.qil_compare.specs.declared.seen.Seen.{Seen}
use Rattle.qil_compare.specs.declared.seen.Seen.TheVariants as seens
use Rattle.qil_compare.specs.Seen.{Offset, Value, number, stack, in_data, function}

abbrev pub offset_of : DataPlace → Offset
offset_of place = record { object = place.object.now; bytes = place.bytes }

abbrev pub value_of : Seen → Value
value_of (seens.Number n) = number n
value_of seens.Stack = stack
value_of (seens.Data place) = in_data (offset_of place)
value_of (seens.Function name) = function name.now

-- the name of the function of a number
abbrev pub name_at : {A : Type 0} → Program A → ℕ → Option Name
name_at p i = option_map (λ f. f.name) (func_at p i)

-- two programs have functions of the same names at the first n numbers
abbrev pub AreNamedAlike : {A : Type 0} → Program A → Program A → ℕ → Type 0
AreNamedAlike p q n = (i : ℕ) → i < n → (name : Name) × (name_at p i ≡ Some name) × (name_at q i ≡ Some name)

-- what a slot holds, or 0
abbrev pub value_or_zero : Option (Option ℕ) → ℕ
value_or_zero None = 0
value_or_zero (Some held) = unwrap_or held 0

abbrev pub held_or_zero : List (Option ℕ) → Slot → ℕ
held_or_zero slots slot = value_or_zero (slice_get slots slot.index)
