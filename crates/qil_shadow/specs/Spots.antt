-- Where what bytes are made of is kept.
use Rattle.std.specs.Prelude.{◌≡◌, ℕ, ◌+◌, ◌-◌, ◌≤◌, ◌⊎◌, nat_le, if◌then◌else◌, List, length}
use Rattle.qil_memory.specs.qil_layout.Layout.{data_base}
use Rattle.qil_memory.specs.Buffers.{stack_base, capacity}
use Rattle.qil_shadow.specs.declared.origin.ByteOrigin.TheVariants as bytes
use Rattle.qil_shadow.specs.declared.region.WordOrigin.{WordOrigin}
use Rattle.qil_shadow.specs.declared.memory.Spot.{Spot}
use Rattle.qil_shadow.specs.declared.memory.Spot.TheVariants.{Data, Stack}
use Rattle.qil_shadow.specs.Bytes.{ByteOrigins}
use Rattle.qil_shadow.specs.Words.{kept}

-- the words of the data and of the stack
pub record MemoryWords : Type 0 where
  pub data_words : List WordOrigin
  pub stack_words : List WordOrigin

pub record HasAllWords (m : MemoryWords) : Type 0 where
  pub data_length : length m.data_words ≡ 131072
  pub stack_length : length m.stack_words ≡ 131072

-- what each byte is made of
unfoldable pub origins_in : MemoryWords → ByteOrigins
origins_in m a =
    if nat_le stack_base a then kept m.stack_words (a - stack_base) else
    (if nat_le data_base a then kept m.data_words (a - data_base) else bytes.Number)

-- so many bytes from an address on are kept among the words of the data, or of the stack
abbrev pub HasSpot : ℕ → ℕ → Type 0
HasSpot a n = ((data_base ≤ a) × (a + n ≤ data_base + capacity)) ⊎ ((stack_base ≤ a) × (a + n ≤ stack_base + capacity))

-- from here on
abbrev pub IsSpotOf : ℕ → ℕ → Spot → Type 0
IsSpotOf a n (Data at) = (a ≡ data_base + at) × (at + n ≤ capacity)
IsSpotOf a n (Stack at) = (a ≡ stack_base + at) × (at + n ≤ capacity)
