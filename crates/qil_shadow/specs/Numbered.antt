-- The shadow as it is kept by numbers, and the one by names that it stands for.
use Rattle.std.specs.Prelude.{ℕ, ◌+◌, Bool, true, false, ◌&&◌, nat_le, if◌then◌else◌, List, [], ◌∷◌, map, codes, Option, Some, None, slice_get, get_or, ◌==◌}
use Rattle.std.specs.Str.{bytes_eq}
use Rattle.qil_tree.specs.declared.tree.Data.{Data}
use Rattle.qil_tree.specs.declared.tree.Func.{Func}
use Rattle.qil_tree.specs.declared.tree.Program.{Program}
use Rattle.qil_semantics.specs.State.{Name}
use Rattle.qil_code.specs.Numbered.{func_at, names_of}
use Rattle.qil_code.specs.Slots.{name_at}
use Rattle.qil_code.specs.declared.numbered.NumberedOperand.{NumberedOperand}
use Rattle.qil_code.specs.declared.numbered.NumberedOperand.TheVariants as operands
use Rattle.qil_shadow.specs.declared.origin.Origin.{Origin}
use Rattle.qil_shadow.specs.declared.origin.Origin.TheVariants as origins
use Rattle.qil_shadow.specs.declared.object.BuiltIn.{BuiltIn}
use Rattle.qil_shadow.specs.declared.object.BuiltIn.TheVariants as built_ins
use Rattle.qil_shadow.specs.declared.object.ObjectKind.{ObjectKind}
use Rattle.qil_shadow.specs.declared.object.ObjectKind.TheVariants as kinds
use Rattle.qil_shadow.specs.declared.object.Object.{Object}
use Rattle.qil_shadow.specs.Objects as by_names
use Rattle.qil_shadow.specs.Shadow.{Origins, Shadow}
use Rattle.qil_shadow.specs.Spots.{MemoryWords, origins_in}
use Rattle.qil_shadow.specs.Stack.{CallShadow}

-- ---- operands

-- what an operand holds, if it is set
abbrev pub value_in : List (Option ℕ) → NumberedOperand → Option ℕ
value_in vs (operands.Constant n) = Some n
value_in vs (operands.Slot s) = get_or vs s.index None

-- both operands are one temporary
abbrev pub is_twice : NumberedOperand → NumberedOperand → Bool
is_twice (operands.Slot s) (operands.Slot t) = s.index == t.index
is_twice a b = false

-- ---- temporaries

-- of the temporaries of these names
unfoldable pub origins_by : List Name → List Origin → Origins
origins_by [] os x = origins.Number
origins_by (n ∷ ns) [] x = origins.Number
origins_by (n ∷ ns) (o ∷ os) x = if bytes_eq n x then o else origins_by ns os x

-- of calls of the functions of these numbers
abbrev pub frames_by : {A : Type 0} → Program A → List ℕ → List CallShadow → List Origins
frames_by p [] cs = []
frames_by p (f ∷ fs) [] = []
frames_by p (f ∷ fs) (c ∷ cs) = origins_by (names_of p f) c.origins ∷ frames_by p fs cs

-- ---- objects

abbrev pub data_name : {A : Type 0} → Option (Data A) → Name
data_name None = []
data_name (Some d) = d.name

abbrev pub function_name : {A : Type 0} → Option (Func A) → Name
function_name None = []
function_name (Some f) = f.name

abbrev pub built_in_name : BuiltIn → Name
built_in_name built_ins.PutChar = codes "putchar"
built_in_name built_ins.Puts = codes "puts"
built_in_name built_ins.Exit = codes "exit"

abbrev pub kind_named : {A : Type 0} → Program A → ObjectKind → by_names.ObjectKind
kind_named p (kinds.Data n) = by_names.of_data (data_name (slice_get p.datas n))
kind_named p (kinds.Func f) = by_names.of_function (function_name (func_at p f.index))
kind_named p (kinds.BuiltIn b) = by_names.of_function (built_in_name b)
kind_named p (kinds.Slot f s) = by_names.of_slot (function_name (func_at p f.index)) (name_at (names_of p f.index) s.index)

abbrev pub object_named : {A : Type 0} → Program A → Object → by_names.Object
object_named p o = record { kind = kind_named p o.kind; address = o.address; size = o.size; made = o.made; depth = o.depth; ended = o.ended }

-- n bytes from an address on are all in the object
abbrev pub has_bytes : Object → ℕ → ℕ → Bool
has_bytes o a n = nat_le o.address a && nat_le (a + n) (o.address + o.size)

abbrev pub is_function : ObjectKind → Bool
is_function (kinds.Data n) = false
is_function (kinds.Func f) = true
is_function (kinds.BuiltIn b) = true
is_function (kinds.Slot f s) = false

-- ---- the shadow

-- while the calls of the functions of these numbers aren't over, the innermost first
abbrev pub shadow_by : {A : Type 0} → Program A → List ℕ → List CallShadow → MemoryWords → List Object → ℕ → Shadow
shadow_by p fs cs m os position = record { frames = frames_by p fs cs; bytes = origins_in m; objects = map (object_named p) os; position = position }
