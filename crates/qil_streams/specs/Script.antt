-- The lines of a script, as lists of bytes.
use Rattle.std.specs.Prelude.{ℕ, List, [], ◌∷◌, nat_eq, cond}

-- the lines, with this byte before the first of them
abbrev pub onto_first : ℕ → List (List ℕ) → List (List ℕ)
onto_first b [] = (b ∷ []) ∷ []
onto_first b (line ∷ lines) = (b ∷ line) ∷ lines

-- the lines of a script: each ends at byte 10, which the last may lack
abbrev pub lines_of : List ℕ → List (List ℕ)
lines_of [] = []
lines_of (b ∷ bytes) = cond (nat_eq b 10) ([] ∷ lines_of bytes) (onto_first b (lines_of bytes))

-- the same where there is a first line
abbrev pub onto_whole : ℕ → List (List ℕ) → List (List ℕ)
onto_whole b [] = []
onto_whole b (line ∷ lines) = (b ∷ line) ∷ lines

-- the lines that byte 10 ends
abbrev pub whole_lines_of : List ℕ → List (List ℕ)
whole_lines_of [] = []
whole_lines_of (b ∷ bytes) = cond (nat_eq b 10) ([] ∷ whole_lines_of bytes) (onto_whole b (whole_lines_of bytes))
