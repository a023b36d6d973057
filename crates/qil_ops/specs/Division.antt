-- Division of whole numbers.
use Rattle.std.specs.Prelude.{◌≡◌, ◌<◌, ℤ, pos, ◌+ℤ◌, ◌*ℤ◌, ◌≤ℤ◌, unsigned_abs}

-- q is the quotient of a by b truncated toward zero, and r what it leaves: the remainder has the dividend's sign and a
-- smaller magnitude than the divisor
pub record IsTruncated (a b q r : ℤ) : Type 0 where
  pub whole : (q *ℤ b) +ℤ r ≡ a
  pub smaller : unsigned_abs r < unsigned_abs b
  pub positive : pos 0 ≤ℤ a → pos 0 ≤ℤ r
  pub negative : a ≤ℤ pos 0 → r ≤ℤ pos 0
