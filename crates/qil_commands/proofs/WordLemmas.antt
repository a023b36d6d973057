-- Words after spacing, and the word at the start.
use Rattle.std.proofs.Common.{◌≡◌, ℕ, zero, suc, ◌+◌, true, false, List, [], ◌∷◌, take, drop, refl, arith, ap, sym, ◌∙◌, inl, inr}
use Rattle.std.specs.List.{prefix_len}
use Rattle.std.proofs.lemmas.Bool.{cases_Bool}
use Rattle.qil_commands.specs.Words.{is_spacing, is_word_byte, goes_on, onto_first, words_of}

word_behind : (b : ℕ) (line : List ℕ) → is_spacing b ≡ true → words_of (b ∷ line) ≡ words_of line
word_behind b line t = rw t refl

joined : (b : ℕ) (bytes : List ℕ) → is_spacing b ≡ false → goes_on bytes ≡ true → words_of (b ∷ bytes) ≡ onto_first b (words_of bytes)
joined b bytes h g = rw (h, g) refl

ended : (b : ℕ) (bytes : List ℕ) → is_spacing b ≡ false → goes_on bytes ≡ false → words_of (b ∷ bytes) ≡ (b ∷ []) ∷ words_of bytes
ended b bytes h g = rw (h, g) refl

-- spacing before it says nothing
pub words_of-behind : (line : List ℕ) → words_of (drop (prefix_len is_spacing line) line) ≡ words_of line
words_of-behind [] = refl
words_of-behind (b ∷ line) =
    let next : 1 + prefix_len is_spacing line ≡ suc (prefix_len is_spacing line) = omega arith in
    elim (cases_Bool (is_spacing b)) [
      | inl t ↦
          let more : prefix_len is_spacing (b ∷ line) ≡ suc (prefix_len is_spacing line) = rw t next in
          rw more (words_of-behind line ∙ sym (word_behind b line t))
      | inr f ↦ let here : prefix_len is_spacing (b ∷ line) ≡ 0 = rw f refl in rw here refl
    ]

-- the same by a number
pub words_of-behind_at : (line : List ℕ) (n : ℕ) → n ≡ prefix_len is_spacing line → words_of (drop n line) ≡ words_of line
words_of-behind_at line n e = rw e (words_of-behind line)

-- what begins with a byte of a word has that word first
pub words_of-prefix : (b : ℕ) (line : List ℕ) → is_spacing b ≡ false →
    words_of (b ∷ line) ≡ (b ∷ take (prefix_len is_word_byte line) line) ∷ words_of (drop (prefix_len is_word_byte line) line)
words_of-prefix b [] h = ended b [] h refl
words_of-prefix b (c ∷ line) h =
    let next : 1 + prefix_len is_word_byte line ≡ suc (prefix_len is_word_byte line) = omega arith in
    elim (cases_Bool (is_spacing c)) [
      | inl t ↦
          let g : goes_on (c ∷ line) ≡ false = rw t refl in
          let none : prefix_len is_word_byte (c ∷ line) ≡ 0 = rw t refl in
          ended b (c ∷ line) h g ∙ rw none refl
      | inr f ↦
          let g : goes_on (c ∷ line) ≡ true = rw f refl in
          let some : prefix_len is_word_byte (c ∷ line) ≡ suc (prefix_len is_word_byte line) = rw f next in
          joined b (c ∷ line) h g ∙ (ap (onto_first b) (words_of-prefix c line f) ∙ rw some refl)
    ]

-- the first word, by the length of the longest run of its bytes
pub words_of-first : (line : List ℕ) (n : ℕ) → prefix_len is_word_byte line ≡ suc n →
    words_of line ≡ take (suc n) line ∷ words_of (drop (suc n) line)
words_of-first [] n e = absurd cc
words_of-first (b ∷ line) n e = elim (cases_Bool (is_spacing b)) [
  | inl t ↦ let none : prefix_len is_word_byte (b ∷ line) ≡ 0 = rw t refl in absurd (omega (arith, none, e))
  | inr f ↦
      let some : prefix_len is_word_byte (b ∷ line) ≡ 1 + prefix_len is_word_byte line = rw f refl in
      let k : prefix_len is_word_byte line ≡ n = omega (arith, some, e) in
      words_of-prefix b line f ∙ rw k refl
]

-- where no byte of a word is at the start after the spacing, there is no word
pub words_of-none : (line : List ℕ) → prefix_len is_word_byte (drop (prefix_len is_spacing line) line) ≡ 0 → words_of line ≡ []
words_of-none [] e = refl
words_of-none (b ∷ line) e =
    let next : 1 + prefix_len is_spacing line ≡ suc (prefix_len is_spacing line) = omega arith in
    elim (cases_Bool (is_spacing b)) [
      | inl t ↦
          let more : prefix_len is_spacing (b ∷ line) ≡ suc (prefix_len is_spacing line) = rw t next in
          word_behind b line t ∙ words_of-none line (rw more at e)
      | inr f ↦
          let here : prefix_len is_spacing (b ∷ line) ≡ 0 = rw f refl in
          let some : prefix_len is_word_byte (b ∷ line) ≡ 1 + prefix_len is_word_byte line = rw f refl in
          absurd (omega (arith, some, rw here at e))
    ]

-- the first word after the spacing, by both lengths
first_by : (line : List ℕ) (n : ℕ) → n ≡ prefix_len is_word_byte line → (n ≡ 0 → ⊥) → words_of line ≡ take n line ∷ words_of (drop n line)
first_by line zero e some = absurd (some refl)
first_by line (suc n) e some = words_of-first line n (sym e)

pub words_of-split : (line : List ℕ) (m n : ℕ) → m ≡ prefix_len is_spacing line → n ≡ prefix_len is_word_byte (drop m line) → (n ≡ 0 → ⊥) →
    words_of line ≡ take n (drop m line) ∷ words_of (drop n (drop m line))
words_of-split line m n e k some = sym (words_of-behind_at line m e) ∙ first_by (drop m line) n k some
