-- Where the data and the functions of a program lie, and the bytes of the data. Addresses and sizes are in bytes.
use Rattle.std.specs.Prelude.{ℕ, ◌+◌, ◌-◌, ◌*◌, ◌/◌, ◌%◌, ◌^◌, zero, suc, Bool, ◌==◌, ◌||◌, not, nat_lt, if◌then◌else◌, List, [], ◌∷◌, ◌++◌, length, replicate, codes, Option, Some, None, unwrap_or}
use Rattle.std.specs.Option.{option_or}
use Rattle.std.specs.Str.{bytes_eq}
use Rattle.std.specs.List.{flat_map, sum_by}
use Rattle.qil_tree.specs.declared.ops.Width.{Width}
use Rattle.qil_tree.specs.declared.ops.Width.TheVariants as widths
use Rattle.qil_tree.specs.declared.tree.Item.{Item}
use Rattle.qil_tree.specs.declared.tree.Item.TheVariants as items
use Rattle.qil_tree.specs.declared.tree.Field.{Field}
use Rattle.qil_tree.specs.declared.tree.Field.TheVariants as fields
use Rattle.qil_tree.specs.declared.tree.Data.{Data}
use Rattle.qil_tree.specs.declared.tree.Func.{Func}
use Rattle.qil_tree.specs.declared.tree.Program.{Program}
use Rattle.qil_layout.specs.declared.error.LayoutCode.{LayoutCode}
use Rattle.qil_layout.specs.declared.error.LayoutCode.TheVariants.{Y1, Y2}

-- ---- sizes

abbrev pub width_bytes : Width → ℕ
width_bytes widths.B = 1
width_bytes widths.H = 2
width_bytes widths.W = 4
width_bytes widths.L = 8

abbrev pub item_size : {A : Type 0} → Width → Item A → ℕ
item_size w (items.Number n) = width_bytes w
item_size w (items.Text bytes) = length bytes
item_size w (items.Address g n) = width_bytes w

abbrev pub field_size : {A : Type 0} → Field A → ℕ
field_size (fields.Values w values) = sum_by (item_size w) values
field_size (fields.Zeros n) = n

-- fields are packed
abbrev pub size_of : {A : Type 0} → Data A → ℕ
size_of d = sum_by field_size d.fields

-- ---- places

-- the data lies here, in the order of the text
abbrev pub data_base : ℕ
data_base = 65536

-- and is not to pass this
abbrev pub data_limit : ℕ
data_limit = 65536 + 1048576

abbrev pub align_of : {A : Type 0} → Data A → ℕ
align_of d = unwrap_or d.align 16

-- the least multiple that is not below n
abbrev pub rounded : ℕ → ℕ → ℕ
rounded align n = (n + (align - 1)) / align * align

-- where an object begins and ends that comes at an address or after it
abbrev pub start_of : {A : Type 0} → ℕ → Data A → ℕ
start_of at d = rounded (align_of d) at

abbrev pub end_of : {A : Type 0} → ℕ → Data A → ℕ
end_of at d = start_of at d + size_of d

-- ---- what can't be laid out

-- the powers of two from 1 to 4096
abbrev pub is_alignment : ℕ → Bool
is_alignment n =
    n == 1 || (n == 2 || (n == 4 || (n == 8 || (n == 16 || (n == 32 || (n == 64 || (n == 128 || (n == 256 || (n == 512 || (n == 1024 || (n == 2048 || n == 4096)))))))))))

-- a fault of one object: its alignment before the size that it brings the data to
abbrev pub object_fault : {A : Type 0} → ℕ → Data A → Option LayoutCode
object_fault at d = if not (is_alignment (align_of d)) then Some Y2 else (if nat_lt data_limit (end_of at d) then Some Y1 else None)

abbrev pub reported : {A : Type 0} → Data A → Option LayoutCode → Option (LayoutCode × ℕ) → Option (LayoutCode × ℕ)
reported d (Some code) later = Some (code, d.line)
reported d None later = later

-- the first object that has a fault, with the line of its name
abbrev pub fault_from : {A : Type 0} → ℕ → List (Data A) → Option (LayoutCode × ℕ)
fault_from at [] = None
fault_from at (d ∷ ds) = reported d (object_fault at d) (fault_from (end_of at d) ds)

abbrev pub fault_of : {A : Type 0} → Program A → Option (LayoutCode × ℕ)
fault_of p = fault_from data_base p.datas

-- ---- addresses of names

abbrev pub if_named : List ℕ → List ℕ → ℕ → Option ℕ
if_named name x address = if bytes_eq name x then Some address else None

abbrev pub data_address : {A : Type 0} → ℕ → List (Data A) → List ℕ → Option ℕ
data_address at [] x = None
data_address at (d ∷ ds) x = option_or (if_named d.name x (start_of at d)) (data_address (end_of at d) ds x)

-- the i-th function of the text, from 0, lies at 4096 + 16 i
abbrev pub func_address : {A : Type 0} → ℕ → List (Func A) → List ℕ → Option ℕ
func_address at [] x = None
func_address at (f ∷ fs) x = option_or (if_named f.name x at) (func_address (at + 16) fs x)

abbrev pub built_in_address : List ℕ → Option ℕ
built_in_address x = option_or (if_named (codes "putchar") x 1024) (option_or (if_named (codes "puts") x 1040) (if_named (codes "exit") x 1056))

-- a built-in is used only where the program doesn't define its name
abbrev pub address_of : {A : Type 0} → Program A → List ℕ → Option ℕ
address_of p x = option_or (data_address data_base p.datas x) (option_or (func_address 4096 p.funcs x) (built_in_address x))

-- ---- bytes

-- the n low bytes of a number, the least significant first
abbrev pub low_bytes : ℕ → ℕ → List ℕ
low_bytes zero v = []
low_bytes (suc n) v = v % 256 ∷ low_bytes n (v / 256)

-- so many zeros; opaque, since a count of 2 ^ 20 mustn't be written out
unfoldable pub zeros : ℕ → List ℕ
zeros n = replicate n 0

abbrev pub item_bytes : {A : Type 0} → (List ℕ → Option ℕ) → Width → Item A → List ℕ
item_bytes address w (items.Number n) = low_bytes (width_bytes w) n
item_bytes address w (items.Text bytes) = bytes
item_bytes address w (items.Address g n) = low_bytes (width_bytes w) ((unwrap_or (address g) 0 + n) % 2 ^ 64)

abbrev pub field_bytes : {A : Type 0} → (List ℕ → Option ℕ) → Field A → List ℕ
field_bytes address (fields.Values w values) = flat_map (item_bytes address w) values
field_bytes address (fields.Zeros n) = zeros n

abbrev pub object_bytes : {A : Type 0} → (List ℕ → Option ℕ) → Data A → List ℕ
object_bytes address d = flat_map (field_bytes address) d.fields

-- the objects with zeros between them
abbrev pub bytes_from : {A : Type 0} → (List ℕ → Option ℕ) → ℕ → List (Data A) → List ℕ
bytes_from address at [] = []
bytes_from address at (d ∷ ds) = zeros (start_of at d - at) ++ (object_bytes address d ++ bytes_from address (end_of at d) ds)

-- the bytes of the data, the first at the data's base
abbrev pub bytes_of : {A : Type 0} → Program A → List ℕ
bytes_of p = bytes_from (address_of p) data_base p.datas
