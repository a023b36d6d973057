-- Bytes as texts of the protocol, which are UTF-8.
use Rattle.std.specs.Prelude.{ℕ, ◌-◌, nat_lt, if◌then◌else◌, List, length, take, encode_utf8_all}
use Rattle.std.specs.Str.Lossy.{utf8_valid_len}

-- bytes as they are if they are UTF-8, else each as the character of its number
unfoldable pub shown_text : List ℕ → List ℕ
shown_text bytes = if nat_lt (utf8_valid_len bytes) (length bytes) then encode_utf8_all bytes else bytes

-- a line without its last byte, the newline
abbrev pub without_end : List ℕ → List ℕ
without_end line = take (length line - 1) line
