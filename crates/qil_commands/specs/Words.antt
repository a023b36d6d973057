-- The words of a line.
use Rattle.std.specs.Prelude.{ℕ, ◌==◌, ◌||◌, Bool, false, not, cond, List, [], ◌∷◌}

-- a space, a tab or byte 13
abbrev pub is_spacing : ℕ → Bool
is_spacing b = (b == 32 || b == 9) || b == 13

abbrev pub is_word_byte : ℕ → Bool
is_word_byte b = not (is_spacing b)

-- a word goes on at the start of these bytes
abbrev pub goes_on : List ℕ → Bool
goes_on [] = false
goes_on (b ∷ bytes) = is_word_byte b

-- the words, with this byte before the first of them
abbrev pub onto_first : ℕ → List (List ℕ) → List (List ℕ)
onto_first b [] = (b ∷ []) ∷ []
onto_first b (word ∷ words) = (b ∷ word) ∷ words

-- the words of a line: its longest runs of bytes that are no spacing
abbrev pub words_of : List ℕ → List (List ℕ)
words_of [] = []
words_of (b ∷ bytes) = cond (is_spacing b) (words_of bytes) (cond (goes_on bytes) (onto_first b (words_of bytes)) ((b ∷ []) ∷ words_of bytes))
