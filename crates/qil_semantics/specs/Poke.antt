-- Pokes: one temporary of the innermost frame, or bytes of memory, are replaced. Status and place stay.
use Rattle.std.specs.Prelude.{ℕ, List, [], ◌∷◌, if◌then◌else◌, Option, Some, None, Result, Ok, Err}
use Rattle.std.specs.Option.{option_or}
use Rattle.std.specs.Str.{bytes_eq}
use Rattle.qil_tree.specs.declared.ops.Class.{Class}
use Rattle.qil_tree.specs.declared.tree.Func.{Func}
use Rattle.qil_tree.specs.declared.tree.Program.{Program}
use Rattle.qil_memory.specs.qil_rules.declared.occurrence.OccurrenceKind.{OccurrenceKind}
use Rattle.qil_memory.specs.qil_rules.declared.occurrence.OccurrenceKind.TheVariants.{Defines}
use Rattle.qil_memory.specs.qil_rules.declared.occurrence.Occurrence.{Occurrence}
use Rattle.qil_memory.specs.qil_rules.Occurrences.{func_occurrences}
use Rattle.qil_memory.specs.declared.fault.Dead.{Dead}
use Rattle.qil_memory.specs.Live.{Live}
use Rattle.qil_memory.specs.Calls.{stored}
use Rattle.qil_semantics.specs.State.{Name, Frame, State}
use Rattle.qil_semantics.specs.Step.{func_named, sets}

-- why a poke is refused: the run has ended, the bytes aren't all live, the function has no such temporary
pub data PokeFault : Type 0 where
  no_frame dead_bytes unknown_temporary : PokeFault

-- ---- the classes of temporaries

abbrev pub defined_by : OccurrenceKind → Name → Option Class
defined_by (Defines y c) x = if bytes_eq y x then Some c else None
defined_by what x = None

-- the class of a temporary in a text: that of its first definition
abbrev pub class_in : List Occurrence → Name → Option Class
class_in [] x = None
class_in (m ∷ text) x = option_or (defined_by m.what x) (class_in text x)

abbrev pub temp_class : {A : Type 0} → Option (Func A) → Name → Option Class
temp_class None x = None
temp_class (Some func) x = class_in (func_occurrences func) x

-- ---- pokes

-- the value is cut to the class of the temporary
abbrev pub poke_in : State → Frame → List Frame → Name → ℕ → Option Class → Result State PokeFault
poke_in s f fs x v None = Err unknown_temporary
poke_in s f fs x v (Some c) = Ok (record s { frames = sets f (record { name = x; class = c }) v ∷ fs })

abbrev pub poke_frames : {A : Type 0} → Program A → State → List Frame → Name → ℕ → Result State PokeFault
poke_frames p s [] x v = Err no_frame
poke_frames p s (f ∷ fs) x v = poke_in s f fs x v (temp_class (func_named p.funcs f.func) x)

-- the state with that value for a temporary of the innermost frame
abbrev pub poke_temp : {A : Type 0} → Program A → State → Name → ℕ → Result State PokeFault
poke_temp p s x v = poke_frames p s s.frames x v

abbrev pub remembered : State → Result Live Dead → Result State PokeFault
remembered s (Ok m) = Ok (record s { memory = m })
remembered s (Err dead) = Err dead_bytes

-- the state with the n low bytes of that value from an address on
abbrev pub poke_memory : State → ℕ → ℕ → ℕ → Result State PokeFault
poke_memory s a n v = remembered s (stored s.memory a n v)
