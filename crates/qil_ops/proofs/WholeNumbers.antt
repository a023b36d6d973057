-- Whole numbers: truncated quotients, and two's complement.
use Rattle.std.proofs.Common.{◌≡◌, ◌≢◌, ℕ, ◌+◌, ◌-◌, ◌%◌, ◌^◌, ◌<◌, Bool, true, false, nat_lt, if◌then◌else◌, ℤ, pos, negsuc, ◌-ℤ◌, ◌≤ℤ◌, refl, arith, suc, zero}
use Rattle.std.proofs.Math.Nat.{zero-mod, mod-lt, mod-eq_of_lt}
use Rattle.std.proofs.lemmas.Nat.{pow_pos}
use Rattle.std.proofs.lemmas.Int.{ints, quot-rem, rem_below}
use Rattle.std.specs.Prelude.{int_div, int_rem, unsigned_abs}
use Rattle.std.specs.Int.{int_rem_euclid}
use Rattle.qil_ops.specs.Values.{low_bits, as_signed, as_bits}
use Rattle.qil_ops.specs.Division.{IsTruncated}

magnitude : (b : ℤ) → b ≢ pos 0 → 0 < unsigned_abs b
magnitude (pos zero) h = absurd (h refl)
magnitude (pos (suc n)) h = omega arith
magnitude (negsuc n) h = omega arith

positive : (a b : ℤ) → pos 0 ≤ℤ a → pos 0 ≤ℤ int_rem a b
positive (pos a) b h = omega (arith, ints)
positive (negsuc a) b h = absurd (omega (arith, ints))

negative : (a b : ℤ) → a ≤ℤ pos 0 → int_rem a b ≤ℤ pos 0
negative (pos a) b h =
    let z : a ≡ 0 = omega (arith, ints) in
    rw z (omega (arith, ints, zero-mod (unsigned_abs b)))
negative (negsuc a) b h = omega (arith, ints)

pub truncated : (a b : ℤ) → b ≢ pos 0 → IsTruncated a b (int_div a b) (int_rem a b)
truncated a b h = record {
  whole = quot-rem a b;
  smaller = rem_below a b (magnitude b h);
  positive = positive a b;
  negative = negative a b;
}

-- l is below m; either side of h, the number that l represents is l again modulo m
same_again : (m h l : ℕ) (b : Bool) → nat_lt l h ≡ b → l < m → unsigned_abs (int_rem_euclid (if b then pos l else (pos l -ℤ pos m)) (pos m)) ≡ l
same_again m h l true e below = mod-eq_of_lt below
same_again m h l false e below =
    let shown : (pos l -ℤ pos m) ≡ negsuc (m - (l + 1)) = omega (arith, ints) in
    let small : (m - (l + 1)) % m ≡ m - (l + 1) = mod-eq_of_lt (omega arith) in
    rw (shown, small) (omega arith)

pub bits_again : (n v : ℕ) → as_bits n (as_signed n v) ≡ low_bits n v
bits_again n v = same_again (2 ^ n) (2 ^ (n - 1)) (v % 2 ^ n) (nat_lt (v % 2 ^ n) (2 ^ (n - 1))) refl (mod-lt v (pow_pos n))
