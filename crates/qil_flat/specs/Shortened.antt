-- A memory without its dead bytes.
use Rattle.std.specs.Prelude.{ℕ, ◌+◌, ◌≤◌, List, length}
use Rattle.qil_memory.specs.Buffers.{Buffers, stack_base, capacity}

-- of this data, and of a stack that has no bytes from the top on
abbrev pub shortened : List ℕ → List ℕ → Buffers
shortened data_bytes stack_bytes = record { data_bytes = data_bytes; stack_bytes = stack_bytes; top = stack_base + length stack_bytes }

-- a memory has room for them
pub record IsShort (data_bytes stack_bytes : List ℕ) : Type 0 where
  pub few : length data_bytes ≤ capacity
  pub low : length stack_bytes ≤ capacity
