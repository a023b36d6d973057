-- Values: whole numbers, and what is left of them in a number of bits (QBE IL, Types and Constants).
use Rattle.std.specs.Prelude.{ℕ, ◌-◌, ◌%◌, ◌^◌, nat_lt, if◌then◌else◌, ℤ, pos, ◌-ℤ◌, unsigned_abs}
use Rattle.std.specs.Int.{int_rem_euclid}
use Rattle.qil_tree.specs.declared.ops.Class.{Class}
use Rattle.qil_tree.specs.declared.ops.Class.TheVariants as classes

-- the bits of a class
abbrev pub width : Class → ℕ
width classes.W = 32
width classes.L = 64

-- the low n bits
abbrev pub low_bits : ℕ → ℕ → ℕ
low_bits n v = v % 2 ^ n

-- the low n bits in two's complement
abbrev pub as_signed : ℕ → ℕ → ℤ
as_signed n v = if nat_lt (low_bits n v) (2 ^ (n - 1)) then pos (low_bits n v) else (pos (low_bits n v) -ℤ pos (2 ^ n))

-- a whole number modulo 2 ^ n, as n bits
abbrev pub as_bits : ℕ → ℤ → ℕ
as_bits n z = unsigned_abs (int_rem_euclid z (pos (2 ^ n)))
