-- What the bytes of memory are made of: how values are stored as bytes, and loaded from them.
use Rattle.std.specs.Prelude.{ℕ, suc, zero, ◌+◌, ◌-◌, Bool, true, false, ◌==◌, ◌&&◌, nat_lt, if◌then◌else◌, List, [], ◌∷◌, length, slice_get, unwrap_or}
use Rattle.qil_tree.specs.declared.ops.Class.{Class}
use Rattle.qil_tree.specs.declared.ops.Class.TheVariants as classes
use Rattle.qil_tree.specs.declared.ops.LoadOp.{LoadOp}
use Rattle.qil_tree.specs.declared.ops.LoadOp.TheVariants as loads
use Rattle.qil_shadow.specs.declared.origin.ObjectId.{ObjectId}
use Rattle.qil_shadow.specs.declared.origin.Origin.{Origin}
use Rattle.qil_shadow.specs.declared.origin.Origin.TheVariants.{Number, Address, Part, Cut, Mixed}
use Rattle.qil_shadow.specs.declared.origin.ByteOrigin.{ByteOrigin}
use Rattle.qil_shadow.specs.declared.origin.ByteOrigin.TheVariants as bytes
use Rattle.qil_shadow.specs.Origins.{same_object}

-- what each byte of memory is made of; of dead bytes nothing is asked
abbrev pub ByteOrigins : Type 0
ByteOrigins = ℕ → ByteOrigin

-- those of n bytes from an address on
abbrev pub origins_at : ByteOrigins → ℕ → ℕ → List ByteOrigin
origins_at m a zero = []
origins_at m a (suc n) = m a ∷ origins_at m (a + 1) n

-- with these for the bytes from an address on
unfoldable pub laid_origins : ByteOrigins → ℕ → List ByteOrigin → ByteOrigins
laid_origins m a bs b = if nat_lt b a then m b else unwrap_or (slice_get bs (b - a)) (m b)

-- ---- stores

-- of a part the bytes from its first on; a number of one byte tells which, so that those behind it are cut
abbrev pub part_byte : ObjectId → ℕ → ByteOrigin
part_byte o k = if nat_lt k 256 then bytes.Part o k else bytes.Cut

-- the byte at a place of a value that is stored in n bytes
abbrev pub byte_of : ℕ → Origin → ℕ → ByteOrigin
byte_of n Number i = bytes.Number
byte_of n (Address o) i = part_byte o i
byte_of n (Part o k) i = if n == 8 then bytes.CutPart i else part_byte o (k + i)
byte_of n Cut i = if n == 8 then bytes.CutPart i else bytes.Cut
byte_of n Mixed i = bytes.Mixed

-- of a value that is stored in n bytes, those from a place on
abbrev pub bytes_from : ℕ → Origin → ℕ → ℕ → List ByteOrigin
bytes_from n m i zero = []
bytes_from n m i (suc left) = byte_of n m i ∷ bytes_from n m (i + 1) left

abbrev pub stored_origins : ℕ → Origin → List ByteOrigin
stored_origins n m = bytes_from n m 0 n

-- ---- loads

abbrev pub load_bytes : LoadOp → ℕ
load_bytes loads.L = 8
load_bytes loads.Sw = 4
load_bytes loads.Uw = 4
load_bytes loads.Sh = 2
load_bytes loads.Uh = 2
load_bytes loads.Sb = 1
load_bytes loads.Ub = 1

abbrev pub is_number_byte : ByteOrigin → Bool
is_number_byte bytes.Number = true
is_number_byte b = false

abbrev pub are_numbers : List ByteOrigin → Bool
are_numbers [] = true
are_numbers (b ∷ bs) = is_number_byte b && are_numbers bs

-- the byte of a place of an address of an object
abbrev pub is_part : ObjectId → ℕ → ByteOrigin → Bool
is_part o k (bytes.Part q j) = same_object o q && k == j
is_part o k b = false

-- those of the places k, k + 1, ..
abbrev pub are_parts : ObjectId → ℕ → List ByteOrigin → Bool
are_parts o k [] = true
are_parts o k (b ∷ bs) = is_part o k b && are_parts o (k + 1) bs

-- the byte of a place of an address that was cut
abbrev pub is_cut_part : ℕ → ByteOrigin → Bool
is_cut_part k (bytes.CutPart j) = k == j
is_cut_part k b = false

abbrev pub are_cut_parts : ℕ → List ByteOrigin → Bool
are_cut_parts k [] = true
are_cut_parts k (b ∷ bs) = is_cut_part k b && are_cut_parts (k + 1) bs

-- bytes that belong to no one value
abbrev pub jumbled : Class → Origin
jumbled classes.W = Cut
jumbled classes.L = Mixed

abbrev pub part_of : ObjectId → ℕ → ℕ → Origin
part_of o k n = if k == 0 && n == 8 then Address o else Part o k

-- what a value of a class is made of that is loaded from such bytes
abbrev pub joined : Class → List ByteOrigin → Origin
joined c [] = Number
joined c (bytes.Number ∷ bs) = if are_numbers bs then Number else jumbled c
joined c (bytes.Part o k ∷ bs) = if are_parts o (k + 1) bs then part_of o k (length bs + 1) else jumbled c
joined c (bytes.CutPart k ∷ bs) = if k == 0 && length bs == 7 && are_cut_parts 1 bs then Cut else jumbled c
joined c (b ∷ bs) = jumbled c
