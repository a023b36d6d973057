-- What a byte is made of that was set, and the others of its word.
use Rattle.std.proofs.Common.{◌≡◌, ◌≢◌, ℕ, zero, suc, ◌+◌, ◌-◌, ◌*◌, ◌/◌, ◌%◌, ◌<◌, ◌==◌, Bool, true, false, ltb, length, get_or, set, replicate, if◌then◌else◌, List, [], ◌∷◌, refl, sym, ◌∙◌, ap, arith, inl, inr}
use Rattle.std.proofs.lemmas.List.{get_or-set_same, get_or-set_other, get_or_default}
use Rattle.std.proofs.lemmas.Bool.{cases_eq, cases_lt, eq-eqb, ne_eqb}
use Rattle.std.proofs.lemmas.Bool.Decides.{nat_tests}
use Rattle.qil_shadow.specs.declared.origin.ByteOrigin.{ByteOrigin}
use Rattle.qil_shadow.specs.declared.origin.ByteOrigin.TheVariants as bytes
use Rattle.qil_shadow.specs.declared.region.WordOrigin.{WordOrigin}
use Rattle.qil_shadow.specs.declared.region.WordOrigin.TheVariants as words
use Rattle.qil_shadow.specs.Bytes.{ByteOrigins, laid_origins}
use Rattle.qil_shadow.specs.Shadow.{all_numbers}
use Rattle.qil_shadow.specs.Words.{is_of_numbers, byte_in, spread, kept, with_byte}

-- a word that is spread has its bytes
pub get-spread : (w : WordOrigin) (k : ℕ) → k < 8 → get_or (spread w) k bytes.Number ≡ byte_in w k
get-spread w zero lt = refl
get-spread w (suc zero) lt = refl
get-spread w (suc (suc zero)) lt = refl
get-spread w (suc (suc (suc zero))) lt = refl
get-spread w (suc (suc (suc (suc zero)))) lt = refl
get-spread w (suc (suc (suc (suc (suc zero))))) lt = refl
get-spread w (suc (suc (suc (suc (suc (suc zero)))))) lt = refl
get-spread w (suc (suc (suc (suc (suc (suc (suc zero))))))) lt = refl
get-spread w (suc (suc (suc (suc (suc (suc (suc (suc k)))))))) lt = absurd (omega (arith, lt))

length-spread : (w : WordOrigin) → length (spread w) ≡ 8
length-spread w = refl

-- with one byte set
set_byte : (w : WordOrigin) (i j : ℕ) (b : ByteOrigin) → i < 8 → j < 8
    → get_or (set (spread w) i b) j bytes.Number ≡ (if j == i then b else byte_in w j)
set_byte w i j b below within =
    elim (cases_eq j i) [
      | inl is ↦ rw (eq-eqb j i is, is) (get_or-set_same (spread w) i b bytes.Number (omega (arith, below, length-spread w)))
      | inr other ↦ rw (ne_eqb j i other) (get_or-set_other (spread w) i j b bytes.Number other ∙ get-spread w j within)
    ]

-- ---- among words

-- another word, or the same
set_in_word : (ws : List WordOrigin) (i j q r : ℕ) (b : ByteOrigin) → i / 8 < length ws → q ≡ j / 8 → r ≡ j % 8
    → byte_in (get_or (set ws (i / 8) (words.Spread (set (spread (get_or ws (i / 8) words.Numbers)) (i % 8) b))) q words.Numbers) r
    ≡ (if j == i then b else byte_in (get_or ws q words.Numbers) r)
set_in_word ws i j q r b there is at =
    elim (cases_eq q (i / 8)) [
      | inl same ↦ elim (cases_eq j i) [
        | inl equal ↦
            let place : r ≡ i % 8 = at ∙ ap (λ k. k % 8) equal in
            rw (eq-eqb j i equal, same, get_or-set_same ws (i / 8) (words.Spread (set (spread (get_or ws (i / 8) words.Numbers)) (i % 8) b)) words.Numbers there, place)
            (get_or-set_same (spread (get_or ws (i / 8) words.Numbers)) (i % 8) b bytes.Number (omega (arith, length-spread (get_or ws (i / 8) words.Numbers))))
        | inr other ↦
            let apart : r ≢ i % 8 = λ e. other (omega (arith, e, same, is, at)) in
            rw (ne_eqb j i other, same, get_or-set_same ws (i / 8) (words.Spread (set (spread (get_or ws (i / 8) words.Numbers)) (i % 8) b)) words.Numbers there)
            (get_or-set_other (spread (get_or ws (i / 8) words.Numbers)) (i % 8) r b bytes.Number apart
            ∙ get-spread (get_or ws (i / 8) words.Numbers) r (omega (arith, at)))
      ]
      | inr other ↦
          let apart : j ≢ i = λ e. other (is ∙ ap (λ k. k / 8) e) in
          rw (ne_eqb j i apart, get_or-set_other ws (i / 8) q (words.Spread (set (spread (get_or ws (i / 8) words.Numbers)) (i % 8) b)) words.Numbers other) refl
    ]

pub kept_set : (ws : List WordOrigin) (i : ℕ) (b : ByteOrigin) → i < 8 * length ws
    → kept (set ws (i / 8) (words.Spread (set (spread (get_or ws (i / 8) words.Numbers)) (i % 8) b))) ≡ with_byte (kept ws) i b
unfolding kept with_byte
kept_set ws i b there = λ path j. set_in_word ws i j (j / 8) (j % 8) b (omega arith) refl refl path

-- the word that was read, whatever is said of one outside
pub word_read : (ws : List WordOrigin) (q : ℕ) (w : WordOrigin) → q < length ws → w ≡ get_or ws q w → get_or ws q words.Numbers ≡ w
word_read ws q w there is = get_or_default ws q words.Numbers w there ∙ sym is

pub kept_set_found : (ws now : List WordOrigin) (w : WordOrigin) (bs : List ByteOrigin) (i : ℕ) (b : ByteOrigin) → ws ≡ now → w ≡ get_or ws (i / 8) w
    → bs ≡ spread w → i < 8 * length now → kept (set ws (i / 8) (words.Spread (set bs (i % 8) b))) ≡ with_byte (kept now) i b
kept_set_found ws now w bs i b same is spreads below =
    let there : i < 8 * length ws = rw same below in
    let word : get_or ws (i / 8) words.Numbers ≡ w = word_read ws (i / 8) w (omega (arith, there)) is in
    (λ path. kept (set ws (i / 8) (words.Spread (set ((spreads ∙ ap spread (sym word)) path) (i % 8) b))))
    ∙ kept_set ws i b there
    ∙ (λ path. with_byte (kept (same path)) i b)

-- ---- numbers

pub byte_in-numbers : (w : WordOrigin) (k : ℕ) → is_of_numbers w ≡ true → byte_in w k ≡ bytes.Number
byte_in-numbers words.Numbers k e = refl
byte_in-numbers (words.Address o) k e = absurd (cc)
byte_in-numbers words.CutAddress k e = absurd (cc)
byte_in-numbers (words.Spread bs) k e = absurd (cc)

-- a byte of such a word is one already
stays_number : (ws : List WordOrigin) (i j : ℕ) → is_of_numbers (get_or ws (i / 8) words.Numbers) ≡ true
    → byte_in (get_or ws (j / 8) words.Numbers) (j % 8) ≡ (if j == i then bytes.Number else byte_in (get_or ws (j / 8) words.Numbers) (j % 8))
stays_number ws i j e =
    elim (cases_eq j i) [
      | inl equal ↦ rw (eq-eqb j i equal, equal) (byte_in-numbers (get_or ws (i / 8) words.Numbers) (i % 8) e)
      | inr other ↦ rw (ne_eqb j i other) refl
    ]

pub kept_number : (ws : List WordOrigin) (i : ℕ) → is_of_numbers (get_or ws (i / 8) words.Numbers) ≡ true → kept ws ≡ with_byte (kept ws) i bytes.Number
unfolding kept with_byte
kept_number ws i e = λ path j. stays_number ws i j e path

pub kept_number_found : (ws now : List WordOrigin) (w : WordOrigin) (i : ℕ) (r : Bool) → ws ≡ now → w ≡ get_or ws (i / 8) w → i < 8 * length now
    → r ≡ true → r ≡ is_of_numbers w → kept now ≡ with_byte (kept now) i bytes.Number
kept_number_found ws now w i r same is below yes_it_is test =
    let there : i < 8 * length ws = rw same below in
    let word : get_or ws (i / 8) words.Numbers ≡ w = word_read ws (i / 8) w (omega (arith, there)) is in
    let e : is_of_numbers (get_or now (i / 8) words.Numbers) ≡ true =
    (λ path. is_of_numbers (get_or (sym same path) (i / 8) words.Numbers)) ∙ ap is_of_numbers word ∙ sym test ∙ yes_it_is in
    kept_number now i e

-- ---- one byte after the other

-- the first byte is set, and then the others
laid_one : (m : ByteOrigins) (a : ℕ) (b : ByteOrigin) (bs : List ByteOrigin) (j : ℕ)
    → laid_origins (with_byte m a b) (a + 1) bs j ≡ laid_origins m a (b ∷ bs) j
unfolding laid_origins with_byte
laid_one m a b bs j =
    elim (cases_lt j a) [
      | inl below ↦
          let before : ltb j a ≡ true = grind (arith, nat_tests) in
          let behind : ltb j (a + 1) ≡ true = grind (arith, nat_tests) in
          let apart : j ≢ a = omega (arith, below) in
          rw (before, behind, ne_eqb j a apart) refl
      | inr above ↦ elim (cases_eq j a) [
        | inl here ↦
            let from : ltb j a ≡ false = grind (arith, nat_tests) in
            let first : ltb j (a + 1) ≡ true = grind (arith, nat_tests) in
            let zeroth : j - a ≡ 0 = omega (arith, here) in
            rw (from, first, zeroth, eq-eqb j a here) refl
        | inr other ↦
            let from : ltb j a ≡ false = grind (arith, nat_tests) in
            let later : ltb j (a + 1) ≡ false = grind (arith, nat_tests) in
            let next : j - a ≡ suc (j - (a + 1)) = omega (arith, above, other) in
            rw (from, later, next, ne_eqb j a other) refl
      ]
    ]

pub laid_more : (m : ByteOrigins) (a : ℕ) (b : ByteOrigin) (bs : List ByteOrigin)
    → laid_origins (with_byte m a b) (a + 1) bs ≡ laid_origins m a (b ∷ bs)
laid_more m a b bs = λ path j. laid_one m a b bs j path

laid_nothing : (m : ByteOrigins) (a j : ℕ) → laid_origins m a [] j ≡ m j
unfolding laid_origins
laid_nothing m a j = elim (cases_lt j a) [
  | inl below ↦ let t : ltb j a ≡ true = grind (arith, nat_tests) in rw t refl
  | inr above ↦ let t : ltb j a ≡ false = grind (arith, nat_tests) in rw t refl
]

pub laid_none : (m : ByteOrigins) (a : ℕ) → laid_origins m a [] ≡ m
laid_none m a = λ path j. laid_nothing m a j path

-- ---- words that are new

fresh_word : (n q : ℕ) → get_or (replicate n words.Numbers) q words.Numbers ≡ words.Numbers
fresh_word zero q = refl
fresh_word (suc n) zero = refl
fresh_word (suc n) (suc q) = fresh_word n q

pub kept_fresh : (n : ℕ) (ws : List WordOrigin) → ws ≡ replicate n words.Numbers → kept ws ≡ all_numbers
unfolding kept
kept_fresh n ws e = λ path i. ((λ along. byte_in (get_or (e along) (i / 8) words.Numbers) (i % 8)) ∙ ap (λ w. byte_in w (i % 8)) (fresh_word n (i / 8))) path
