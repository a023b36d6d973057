-- What a reader of a script has read.
use Rattle.std.specs.Prelude.{ℕ, ◌+◌, List, length}

-- the bytes that were read and not taken, and how many were taken
pub record Reading : Type 0 where
  pub pending : List ℕ
  pub given : ℕ

-- how many bytes were read, taken or not
abbrev pub read_count : Reading → ℕ
read_count reading = reading.given + length reading.pending
