-- What a refusal tells.
use Rattle.std.specs.Prelude.{◌≡◌, ℕ, Option, Some}
use Rattle.qil_layout.specs.declared.error.LayoutCode.{LayoutCode}
use Rattle.qil_layout_builder.specs.declared.error.LayoutError.{LayoutError}
use Rattle.qil_layout_builder.specs.declared.error.LayoutError.TheVariants.{Refused, OutOfMemory}

-- unless memory ran out, that fault
abbrev pub IsFault : Option (LayoutCode × ℕ) → LayoutError → Type 0
IsFault fault (Refused code line) = fault ≡ Some (code, line)
IsFault fault OutOfMemory = Unit {0}
