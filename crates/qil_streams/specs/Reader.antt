-- What a reader of a script takes of its source.
use Rattle.std.specs.Prelude.{◌≡◌, ◌≢◌, ℕ, ◌+◌, ◌≤◌, ◌<◌, ◌^◌, List, [], ◌∷◌, ◌++◌, length, take, ⊤, Option, Some, None, Result, Ok, Err}
use Rattle.std.specs.Io.KnownBytes.{Consumes, IsAtEnd, prepend_known}
use Rattle.std.specs.List.{AllByRecursion}
use Rattle.qil_streams.specs.Reading.{Reading, read_count}
use Rattle.qil_streams.specs.declared.reader.NextByte.{NextByte}
use Rattle.qil_streams.specs.declared.reader.NextByte.TheVariants.{Byte, End, TooLong}
use Rattle.qil_streams.specs.declared.reader.LineEnd.{LineEnd}
use Rattle.qil_streams.specs.declared.reader.LineEnd.TheVariants as at

-- what is left of the script: what was read and not taken, and what the source has left
abbrev pub rest_of : Reading → Option (List ℕ) → Option (List ℕ)
rest_of reading remaining = prepend_known reading.pending remaining

-- the source gave some bytes, which count as read
abbrev pub Reads : Reading → Reading → Option (List ℕ) → Option (List ℕ) → Type 0
Reads old new before after = (bytes : List ℕ) × Consumes before after bytes × (read_count new ≡ read_count old + length bytes)

-- known bytes are not at their end
abbrev pub HasMore : Option (List ℕ) → Type 0
HasMore None = ⊤
HasMore (Some bytes) = 0 < length bytes

-- The next byte of a script, by what was left of it before and after. Nothing more is taken past 2^24 bytes.
abbrev pub TakesNextByte : {E : Type 0} → Result NextByte E → Reading → Reading → Option (List ℕ) → Option (List ℕ) → Type 0
TakesNextByte (Ok (Byte b)) old new before after = Consumes before after (b ∷ []) × (new.given ≡ old.given + 1) × (new.given ≤ 2 ^ 24)
TakesNextByte (Ok End) old new before after = Consumes before after [] × IsAtEnd after × (new.given ≡ old.given) × (new.given ≤ 2 ^ 24)
TakesNextByte (Ok TooLong) old new before after = Consumes before after [] × HasMore after × (old.given ≡ 2 ^ 24)
TakesNextByte (Err e) old new before after = Consumes before after [] × (new.pending ≡ [])

-- a line has no byte 10
abbrev pub IsLine : List ℕ → Type 0
IsLine line = AllByRecursion (λ b. b ≢ 10) line

-- The next line, of which the first 257 bytes are kept. At an `Err` a prefix of it was taken, and all that was read.
abbrev pub TakesLine : {E : Type 0} → Result LineEnd E → Reading → Reading → List ℕ → Option (List ℕ) → Option (List ℕ) → List ℕ → Type 0
TakesLine (Ok at.Newline) old new kept before after line =
    Consumes before after (line ++ 10 ∷ []) × (kept ≡ take 257 line) × (new.given ≡ old.given + (length line + 1)) × (new.given ≤ 2 ^ 24)
TakesLine (Ok at.Last) old new kept before after line =
    Consumes before after line × (kept ≡ take 257 line) × (0 < length line) × IsAtEnd after × (new.given ≡ old.given + length line) × (new.given ≤ 2 ^ 24)
TakesLine (Ok at.End) old new kept before after line = Consumes before after [] × IsAtEnd after × (new.given ≡ old.given) × (new.given ≤ 2 ^ 24)
TakesLine (Ok at.TooLong) old new kept before after line = Consumes before after line × HasMore after × (old.given + length line ≡ 2 ^ 24)
TakesLine (Err e) old new kept before after line = Consumes before after line × (new.pending ≡ [])
