-- What bytes are made of, as they are kept by words of eight.
use Rattle.std.specs.Prelude.{ℕ, ◌/◌, ◌%◌, Bool, true, false, ◌==◌, if◌then◌else◌, List, [], ◌∷◌, get_or, replicate}
use Rattle.qil_shadow.specs.declared.origin.Origin.{Origin}
use Rattle.qil_shadow.specs.declared.origin.Origin.TheVariants as origins
use Rattle.qil_shadow.specs.declared.origin.ByteOrigin.{ByteOrigin}
use Rattle.qil_shadow.specs.declared.origin.ByteOrigin.TheVariants as bytes
use Rattle.qil_shadow.specs.declared.region.WordOrigin.{WordOrigin}
use Rattle.qil_shadow.specs.declared.region.WordOrigin.TheVariants as words
use Rattle.qil_shadow.specs.Bytes.{ByteOrigins}

-- the byte at a place of a word
abbrev pub byte_in : WordOrigin → ℕ → ByteOrigin
byte_in words.Numbers k = bytes.Number
byte_in (words.Address o) k = bytes.Part o k
byte_in words.CutAddress k = bytes.CutPart k
byte_in (words.Spread bs) k = get_or bs k bytes.Number

abbrev pub spread : WordOrigin → List ByteOrigin
spread w = byte_in w 0 ∷ byte_in w 1 ∷ byte_in w 2 ∷ byte_in w 3 ∷ byte_in w 4 ∷ byte_in w 5 ∷ byte_in w 6 ∷ byte_in w 7 ∷ []

abbrev pub is_of_numbers : WordOrigin → Bool
is_of_numbers words.Numbers = true
is_of_numbers w = false

-- the word in which a value is stored
abbrev pub word_of : Origin → WordOrigin
word_of origins.Number = words.Numbers
word_of (origins.Address o) = words.Address o
word_of (origins.Part o k) = words.CutAddress
word_of origins.Cut = words.CutAddress
word_of origins.Mixed = words.Spread (replicate 8 bytes.Mixed)

-- the byte at a place among words; outside it is a number
unfoldable pub kept : List WordOrigin → ByteOrigins
kept ws i = byte_in (get_or ws (i / 8) words.Numbers) (i % 8)

unfoldable pub with_byte : ByteOrigins → ℕ → ByteOrigin → ByteOrigins
with_byte m i b j = if j == i then b else m j
