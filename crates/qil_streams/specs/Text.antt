-- Texts as lists of bytes.
use Rattle.std.specs.Prelude.{ℕ, List, ◌++◌, codes}

-- a text and byte 10
abbrev pub line : List ℕ → List ℕ
line text = text ++ codes "\n"
