-- What bytes are made of in which a value was stored, and what a value is made of that is loaded from bytes.
use Rattle.std.proofs.Common.{◌≡◌, ◌≢◌, ℕ, zero, suc, ◌+◌, ◌-◌, ◌*◌, ◌/◌, ◌%◌, ◌<◌, ◌≤◌, Bool, true, false, ltb, length, get_or, set, take, List, [], ◌∷◌, Some, slice_get, refl, sym, ◌∙◌, ap, arith, inl, inr}
use Rattle.std.proofs.lemmas.List.{get_or-set_same, get_or-set_other, get_or-replicate, get_or-take, length-take-le}
use Rattle.std.proofs.lemmas.Option.{slice_get_past}
use Rattle.std.proofs.lemmas.Bool.{cases_eq, cases_lt}
use Rattle.std.proofs.lemmas.Bool.Decides.{nat_tests}
use Rattle.qil_tree.specs.declared.ops.Class.{Class}
use Rattle.qil_shadow.specs.declared.origin.Origin.{Origin}
use Rattle.qil_shadow.specs.declared.origin.Origin.TheVariants as origins
use Rattle.qil_shadow.specs.declared.origin.ByteOrigin.{ByteOrigin}
use Rattle.qil_shadow.specs.declared.origin.ByteOrigin.TheVariants as bytes
use Rattle.qil_shadow.specs.declared.region.WordOrigin.{WordOrigin}
use Rattle.qil_shadow.specs.declared.region.WordOrigin.TheVariants as words
use Rattle.qil_shadow.specs.Bytes.{ByteOrigins, origins_at, laid_origins, byte_of, bytes_from, stored_origins, is_number_byte, are_numbers, joined}
use Rattle.qil_shadow.specs.Words.{is_of_numbers, byte_in, word_of, kept, with_byte}
use Rattle.qil_shadow.proofs.WordLemmas.{laid_more, laid_none, byte_in-numbers, word_read}

-- ---- byte by byte

-- one byte more was stored
pub store_more : (old new : ByteOrigins) (a i n : ℕ) (m : Origin) → i < n → new ≡ with_byte old (a + i) (byte_of n m i)
    → laid_origins new (a + (i + 1)) (bytes_from n m (i + 1) (n - (i + 1))) ≡ laid_origins old (a + i) (bytes_from n m i (n - i))
store_more old new a i n m below is =
    let left : n - i ≡ suc (n - (i + 1)) = omega (arith, below) in
    let next : a + (i + 1) ≡ a + i + 1 = omega arith in
    rw (left, next, is) (laid_more old (a + i) (byte_of n m i) (bytes_from n m (i + 1) (n - (i + 1))))

-- all were
pub store_done : (new x : ByteOrigins) (a i n : ℕ) (m : Origin) → i ≡ n → laid_origins new (a + i) (bytes_from n m i (n - i)) ≡ x → new ≡ x
store_done new x a i n m e is =
    let left : n - i ≡ zero = omega (arith, e) in
    let none : laid_origins new (a + i) (bytes_from n m i (n - i)) ≡ new = rw left (laid_none new (a + i)) in
    sym none ∙ is

-- ---- loads

-- one byte more was read
pub found_more : (f : List ByteOrigin) (m : ByteOrigins) (a i : ℕ) (b : ByteOrigin) → length f ≡ 8 → i < 8 → ((k : ℕ) → k < i → get_or f k bytes.Number ≡ m (a + k))
    → b ≡ m (a + i) → (k : ℕ) → k < i + 1 → get_or (set f i b) k bytes.Number ≡ m (a + k)
found_more f m a i b long below each is k lt = elim (cases_eq k i) [
  | inl same ↦ rw same (get_or-set_same f i b bytes.Number (omega (arith, long, below)) ∙ is)
  | inr other ↦ get_or-set_other f i k b bytes.Number other ∙ each k (omega (arith, lt, other))
]

-- bytes that were read one after the other
pub origins_read : (m : ByteOrigins) (a : ℕ) (bs : List ByteOrigin) → ((k : ℕ) → k < length bs → get_or bs k bytes.Number ≡ m (a + k)) → bs ≡ origins_at m a (length bs)
origins_read m a [] each = refl
origins_read m a (b ∷ bs) each =
    let here : a + 0 ≡ a = omega arith in
    let first : b ≡ m a = each 0 (omega arith) ∙ ap m here in
    let others : bs ≡ origins_at m (a + 1) (length bs) =
    origins_read m (a + 1) bs (λ k below. let next : a + suc k ≡ a + 1 + k = omega arith in each (suc k) (omega (arith, below)) ∙ ap m next) in
    λ path. first path ∷ others path

number_is : (b : ByteOrigin) → b ≡ bytes.Number → is_number_byte b ≡ true
number_is b e = rw e refl

pub all_numbers : (m : ByteOrigins) (a n : ℕ) → ((k : ℕ) → k < n → m (a + k) ≡ bytes.Number) → are_numbers (origins_at m a n) ≡ true
all_numbers m a zero each = refl
all_numbers m a (suc n) each =
    let here : a ≡ a + 0 = omega arith in
    let first : m a ≡ bytes.Number = ap m here ∙ each 0 (omega arith) in
    let others : are_numbers (origins_at m (a + 1) n) ≡ true =
    all_numbers m (a + 1) n (λ k below. let next : a + 1 + k ≡ a + suc k = omega arith in ap m next ∙ each (suc k) (omega (arith, below))) in
    rw (first, others) refl

joined_numbers_from : (c : Class) (b : ByteOrigin) (bs : List ByteOrigin) → b ≡ bytes.Number → are_numbers bs ≡ true → joined c (b ∷ bs) ≡ origins.Number
joined_numbers_from c b bs first others = rw (first, others) refl

-- where all bytes are numbers the value is one
pub joined_numbers : (c : Class) (m : ByteOrigins) (a n : ℕ) → ((k : ℕ) → k < n → m (a + k) ≡ bytes.Number) → joined c (origins_at m a n) ≡ origins.Number
joined_numbers c m a zero each = refl
joined_numbers c m a (suc n) each =
    let here : a ≡ a + 0 = omega arith in
    joined_numbers_from c (m a) (origins_at m (a + 1) n) (ap m here ∙ each 0 (omega arith))
    (all_numbers m (a + 1) n (λ k below. let next : a + 1 + k ≡ a + suc k = omega arith in ap m next ∙ each (suc k) (omega (arith, below))))

-- the bytes of one word of numbers
pub word_numbers : (ws : List WordOrigin) (a n : ℕ) → a % 8 + n ≤ 8 → is_of_numbers (get_or ws (a / 8) words.Numbers) ≡ true
    → (k : ℕ) → k < n → kept ws (a + k) ≡ bytes.Number
unfolding kept
word_numbers ws a n fits e k below =
    let same : (a + k) / 8 ≡ a / 8 = omega (arith, fits, below) in
    rw same (byte_in-numbers (get_or ws (a / 8) words.Numbers) ((a + k) % 8) e)

-- where the word that was read is of numbers
pub load_numbers : (c : Class) (ws now : List WordOrigin) (w : WordOrigin) (a n : ℕ) (r : Bool) → ws ≡ now → w ≡ get_or ws (a / 8) w → 0 < n → a + n ≤ 8 * length now
    → a % 8 + n ≤ 8 → r ≡ true → r ≡ is_of_numbers w → origins.Number ≡ joined c (origins_at (kept now) a n)
load_numbers c ws now w a n r same is some there fits yes_it_is test =
    let inside : a + n ≤ 8 * length ws = rw same there in
    let word : get_or ws (a / 8) words.Numbers ≡ w = word_read ws (a / 8) w (omega (arith, inside, some)) is in
    let e : is_of_numbers (get_or now (a / 8) words.Numbers) ≡ true =
    (λ path. is_of_numbers (get_or (sym same path) (a / 8) words.Numbers)) ∙ ap is_of_numbers word ∙ sym test ∙ yes_it_is in
    sym (joined_numbers c (kept now) a n (word_numbers now a n fits e))

-- the first of a list of bytes that were read
pub take_read : (f : List ByteOrigin) (m : ByteOrigins) (a i n : ℕ) → length f ≡ 8 → n ≤ 8 → i ≡ n → ((k : ℕ) → k < i → get_or f k bytes.Number ≡ m (a + k))
    → take n f ≡ origins_at m a n
take_read f m a i n long few done each =
    let count : length (take n f) ≡ n = length-take-le n f (omega (arith, long, few)) in
    origins_read m a (take n f) (λ k below.
    let low : k < n = omega (arith, count, below) in
    get_or-take n f k bytes.Number low ∙ each k (omega (arith, low, done)))
    ∙ ap (origins_at m a) count

-- ---- whole words

-- the bytes of a value, one by one
nth_byte : (n : ℕ) (m : Origin) (i left k : ℕ) → k < left → slice_get (bytes_from n m i left) k ≡ Some (byte_of n m (i + k))
nth_byte n m i zero k below = absurd (omega (arith, below))
nth_byte n m i (suc left) zero below = let here : i ≡ i + 0 = omega arith in ap (λ j. Some (byte_of n m j)) here
nth_byte n m i (suc left) (suc k) below =
    let next : i + 1 + k ≡ i + suc k = omega arith in
    nth_byte n m (i + 1) left k (omega (arith, below)) ∙ ap (λ j. Some (byte_of n m j)) next

pub length-bytes_from : (n : ℕ) (m : Origin) (i left : ℕ) → length (bytes_from n m i left) ≡ left
length-bytes_from n m i zero = refl
length-bytes_from n m i (suc left) = let others = length-bytes_from n m (i + 1) left in omega (arith, others)

-- of the word in which it is stored they are the same
word_byte : (m : Origin) (k j : ℕ) → k < 8 → j ≡ k → byte_in (word_of m) k ≡ byte_of 8 m j
word_byte origins.Number k j below e = refl
word_byte (origins.Address o) k j below e = let small : ltb j 256 ≡ true = grind (arith, nat_tests) in rw (small, e) refl
word_byte (origins.Part o f) k j below e = rw e refl
word_byte origins.Cut k j below e = rw e refl
word_byte origins.Mixed k j below e = get_or-replicate 8 k bytes.Mixed bytes.Number below

-- a word that is stored is the bytes of its value
stored_byte : (ws : List WordOrigin) (a j : ℕ) (m : Origin) → a % 8 ≡ 0 → a / 8 < length ws
    → byte_in (get_or (set ws (a / 8) (word_of m)) (j / 8) words.Numbers) (j % 8) ≡ laid_origins (kept ws) a (stored_origins 8 m) j
unfolding laid_origins kept
stored_byte ws a j m even there =
    elim (cases_lt j a) [
      | inl before ↦
          let test : ltb j a ≡ true = grind (arith, nat_tests) in
          let other : j / 8 ≢ a / 8 = λ e. absurd (omega (arith, e, before, even)) in
          rw (test, get_or-set_other ws (a / 8) (j / 8) (word_of m) words.Numbers other) refl
      | inr from ↦ elim (cases_lt (j - a) 8) [
        | inl inside ↦
            let test : ltb j a ≡ false = grind (arith, nat_tests) in
            let same : j / 8 ≡ a / 8 = omega (arith, from, inside, even) in
            let place : j % 8 ≡ j - a = omega (arith, from, inside, even) in
            let zeroth : 0 + (j - a) ≡ j - a = omega arith in
            rw (test, same, get_or-set_same ws (a / 8) (word_of m) words.Numbers there, place, nth_byte 8 m 0 8 (j - a) inside) (word_byte m (j - a) (0 + (j - a)) inside zeroth)
        | inr behind ↦
            let test : ltb j a ≡ false = grind (arith, nat_tests) in
            let other : j / 8 ≢ a / 8 = λ e. absurd (omega (arith, e, from, behind, even)) in
            let past : length (stored_origins 8 m) ≤ j - a = omega (arith, behind, length-bytes_from 8 m 0 8) in
            rw (test, get_or-set_other ws (a / 8) (j / 8) (word_of m) words.Numbers other, slice_get_past (stored_origins 8 m) (j - a) past) refl
      ]
    ]

pub word_stored : (ws : List WordOrigin) (a : ℕ) (m : Origin) → a % 8 ≡ 0 → a / 8 < length ws
    → kept (set ws (a / 8) (word_of m)) ≡ laid_origins (kept ws) a (stored_origins 8 m)
unfolding kept
word_stored ws a m even there = λ path j. stored_byte ws a j m even there path

pub word_stored_found : (ws now : List WordOrigin) (w : WordOrigin) (m : Origin) (a n : ℕ) → ws ≡ now → w ≡ word_of m → a % 8 ≡ 0 → n ≡ 8 → a + n ≤ 8 * length now
    → kept (set ws (a / 8) w) ≡ laid_origins (kept now) a (stored_origins n m)
word_stored_found ws now w m a n same is even whole there =
    let inside : a / 8 < length ws = let all : a + n ≤ 8 * length ws = rw same there in omega (arith, all, whole) in
    (λ path. kept (set ws (a / 8) (is path))) ∙ word_stored ws a m even inside ∙ (λ path. laid_origins (kept (same path)) a (stored_origins (sym whole path) m))
