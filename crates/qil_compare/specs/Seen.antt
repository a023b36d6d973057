-- Values as each compilation of a program has them: an address counts as what lies there.
use Rattle.std.specs.Prelude.{ℕ, ◌+◌, ◌-◌, Bool, not, ◌&&◌, nat_lt, if◌then◌else◌, length, reverse, find, codes, Option, Some, None, option_map, unwrap_or, slice_get}
use Rattle.qil_tree.specs.declared.ops.AbiType.{AbiType}
use Rattle.qil_tree.specs.declared.ops.AbiType.TheVariants as types
use Rattle.qil_tree.specs.declared.tree.Data.{Data}
use Rattle.qil_tree.specs.declared.tree.Program.{Program}
use Rattle.qil_layout.specs.declared.callee.Callee.{Callee}
use Rattle.qil_layout.specs.declared.callee.Callee.TheVariants.{Defined, PutChar, Puts, Exit}
use Rattle.qil_layout.specs.Layout.{data_base, address_of, bytes_of}
use Rattle.qil_layout.specs.Callee.{callee_at}
use Rattle.qil_memory.specs.Buffers.{stack_base, stack_end}
use Rattle.qil_semantics.specs.State.{Name}
use Rattle.qil_state.specs.State.{func_name}

-- how far an address lies after the start of a data object
pub record Offset : Type 0 where
  pub object : Name
  pub bytes : ℕ

pub data Value : Type 0 where
  number : ℕ → Value
  stack : Value
  in_data : Offset → Value
  function : Name → Value

-- ---- what lies at an address

-- the stack has addresses from its base on, and its end counts as one
abbrev pub is_stack : ℕ → Bool
is_stack a = not (nat_lt a stack_base) && not (nat_lt stack_end a)

abbrev pub start_of : {A : Type 0} → Program A → Data A → ℕ
start_of p d = unwrap_or (address_of p d.name) 0

abbrev pub starts_by : {A : Type 0} → Program A → ℕ → Data A → Bool
starts_by p a d = not (nat_lt a (start_of p d))

abbrev pub offset_in : {A : Type 0} → Program A → ℕ → Data A → Offset
offset_in p a d = record { object = d.name; bytes = a - start_of p d }

-- in the last object that starts at the address or before it; the first address after all data is the last
unfoldable pub data_place : {A : Type 0} → Program A → ℕ → Option Offset
data_place p a =
    if nat_lt (data_base + length (bytes_of p)) a then None else option_map (offset_in p a) (find (starts_by p a) (reverse p.datas))

abbrev pub callee_name : {A : Type 0} → Program A → Callee → Name
callee_name p (Defined id) = func_name (slice_get p.funcs id.index)
callee_name p PutChar = codes "putchar"
callee_name p Puts = codes "puts"
callee_name p Exit = codes "exit"

-- ---- values

abbrev pub function_or : {A : Type 0} → Program A → ℕ → Option Callee → Value
function_or p a None = number a
function_or p a (Some callee) = function (callee_name p callee)

abbrev pub data_or : {A : Type 0} → Program A → ℕ → Option Offset → Value
data_or p a None = function_or p a (callee_at p a)
data_or p a (Some place) = in_data place

abbrev pub address_seen : {A : Type 0} → Program A → ℕ → Value
address_seen p a = if is_stack a then stack else data_or p a (data_place p a)

-- a value of a type: only one of 64 bits can be an address
abbrev pub seen : {A : Type 0} → Program A → AbiType → ℕ → Value
seen p types.L v = address_seen p v
seen p t v = number v
