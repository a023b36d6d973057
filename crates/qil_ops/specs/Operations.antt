-- What the operations give, in whole numbers (QBE IL, Arithmetic and Bits, Comparisons, Conversions).
use Rattle.std.specs.Prelude.{ℕ, ◌+◌, ◌-◌, ◌*◌, ◌/◌, ◌%◌, ◌^◌, Bool, not, ◌==◌, ◌&&◌, nat_lt, nat_le, if◌then◌else◌, ℤ, pos, negsuc, ◌-ℤ◌, int_lt, int_le, int_div, int_rem, bit_and, bit_or, bit_xor, Result, Ok, Err}
use Rattle.std.specs.Int.{int_div_euclid}
use Rattle.std.specs.Ordering.{int_eq}
use Rattle.qil_tree.specs.declared.ops.Class.{Class}
use Rattle.qil_tree.specs.declared.ops.UnaryOp.{UnaryOp}
use Rattle.qil_tree.specs.declared.ops.UnaryOp.TheVariants as unary
use Rattle.qil_tree.specs.declared.ops.BinaryOp.{BinaryOp}
use Rattle.qil_tree.specs.declared.ops.BinaryOp.TheVariants as binary
use Rattle.qil_tree.specs.declared.ops.CompareOp.{CompareOp}
use Rattle.qil_tree.specs.declared.ops.CompareOp.TheVariants as compare
use Rattle.qil_tree.specs.declared.ops.Extension.{Extension}
use Rattle.qil_tree.specs.declared.ops.Extension.TheVariants as extensions
use Rattle.qil_ops.specs.declared.division.DivFault.{DivFault}
use Rattle.qil_ops.specs.declared.division.DivFault.TheVariants.{Zero, Overflow}
use Rattle.qil_ops.specs.Values.{width, low_bits, as_signed, as_bits}

abbrev pub unary_of : UnaryOp → Class → ℕ → ℕ
unary_of unary.Copy c a = low_bits (width c) a
unary_of unary.Neg c a = as_bits (width c) (pos 0 -ℤ pos a)

-- the quotient of two numbers of n bits is beyond n bits: the least one by -1
abbrev pub overflows_in : ℕ → ℤ → ℤ → Bool
overflows_in n a b = int_eq a (pos 0 -ℤ pos (2 ^ (n - 1))) && int_eq b (negsuc 0)

abbrev pub signed_division : (ℤ → ℤ → ℤ) → ℕ → ℤ → ℤ → Result ℕ DivFault
signed_division of n a b =
    if int_eq b (pos 0) then Err Zero else
    if overflows_in n a b then Err Overflow else
    Ok (as_bits n (of a b))

abbrev pub unsigned_division : (ℕ → ℕ → ℕ) → ℕ → ℕ → Result ℕ DivFault
unsigned_division of a b = if b == 0 then Err Zero else Ok (of a b)

-- shifts of n bits by k: the low bits of a multiple, a quotient, and a quotient of the signed number rounded down
abbrev pub shifted_left : ℕ → ℕ → ℕ → ℕ
shifted_left n a k = low_bits n (a * 2 ^ k)

abbrev pub shifted_right : ℕ → ℕ → ℕ → ℕ
shifted_right n a k = low_bits n a / 2 ^ k

abbrev pub sign_shifted_right : ℕ → ℕ → ℕ → ℕ
sign_shifted_right n a k = as_bits n (int_div_euclid (as_signed n a) (pos (2 ^ k)))

-- `int_div` truncates toward zero, and `int_rem` is what it leaves
abbrev pub binary_of : BinaryOp → Class → ℕ → ℕ → Result ℕ DivFault
binary_of binary.Add c a b = Ok (low_bits (width c) (a + b))
binary_of binary.Sub c a b = Ok (as_bits (width c) (pos a -ℤ pos b))
binary_of binary.Mul c a b = Ok (low_bits (width c) (a * b))
binary_of binary.Div c a b = signed_division int_div (width c) (as_signed (width c) a) (as_signed (width c) b)
binary_of binary.Rem c a b = signed_division int_rem (width c) (as_signed (width c) a) (as_signed (width c) b)
binary_of binary.Udiv c a b = unsigned_division (λ x y. x / y) (low_bits (width c) a) (low_bits (width c) b)
binary_of binary.Urem c a b = unsigned_division (λ x y. x % y) (low_bits (width c) a) (low_bits (width c) b)
binary_of binary.And c a b = Ok (low_bits (width c) (bit_and a b))
binary_of binary.Or c a b = Ok (low_bits (width c) (bit_or a b))
binary_of binary.Xor c a b = Ok (low_bits (width c) (bit_xor a b))
binary_of binary.Sar c a b = Ok (sign_shifted_right (width c) a (b % width c))
binary_of binary.Shr c a b = Ok (shifted_right (width c) a (b % width c))
binary_of binary.Shl c a b = Ok (shifted_left (width c) a (b % width c))

abbrev pub holds : CompareOp → Class → ℕ → ℕ → Bool
holds compare.Eq c a b = low_bits (width c) a == low_bits (width c) b
holds compare.Ne c a b = not (low_bits (width c) a == low_bits (width c) b)
holds compare.Sle c a b = int_le (as_signed (width c) a) (as_signed (width c) b)
holds compare.Slt c a b = int_lt (as_signed (width c) a) (as_signed (width c) b)
holds compare.Sge c a b = int_le (as_signed (width c) b) (as_signed (width c) a)
holds compare.Sgt c a b = int_lt (as_signed (width c) b) (as_signed (width c) a)
holds compare.Ule c a b = nat_le (low_bits (width c) a) (low_bits (width c) b)
holds compare.Ult c a b = nat_lt (low_bits (width c) a) (low_bits (width c) b)
holds compare.Uge c a b = nat_le (low_bits (width c) b) (low_bits (width c) a)
holds compare.Ugt c a b = nat_lt (low_bits (width c) b) (low_bits (width c) a)

-- the low bits as a number of 64 bits
abbrev pub extended : Extension → ℕ → ℕ
extended extensions.Sw v = as_bits 64 (as_signed 32 v)
extended extensions.Uw v = low_bits 32 v
extended extensions.Sh v = as_bits 64 (as_signed 16 v)
extended extensions.Uh v = low_bits 16 v
extended extensions.Sb v = as_bits 64 (as_signed 8 v)
extended extensions.Ub v = low_bits 8 v
