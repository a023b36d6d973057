-- What bytes are made of that were made numbers.
use Rattle.std.proofs.Common.{◌≡◌, ℕ, zero, suc, ◌+◌, ◌-◌, ◌*◌, ◌/◌, ◌%◌, ◌<◌, ◌≤◌, length, set, replicate, List, [], ◌∷◌, ◌++◌, sym, ◌∙◌, arith}
use Rattle.qil_memory.specs.Buffers.{stack_base, capacity}
use Rattle.qil_shadow.specs.declared.origin.Origin.TheVariants as origins
use Rattle.qil_shadow.specs.declared.origin.ByteOrigin.{ByteOrigin}
use Rattle.qil_shadow.specs.declared.origin.ByteOrigin.TheVariants as bytes
use Rattle.qil_shadow.specs.declared.region.WordOrigin.{WordOrigin}
use Rattle.qil_shadow.specs.declared.region.WordOrigin.TheVariants as words
use Rattle.qil_shadow.specs.Bytes.{ByteOrigins, laid_origins}
use Rattle.qil_shadow.specs.Words.{kept, with_byte}
use Rattle.qil_shadow.specs.Spots.{MemoryWords, origins_in}
use Rattle.qil_shadow.proofs.WordLemmas.{laid_more, laid_none}
use Rattle.qil_shadow.proofs.StoreLemmas.{word_stored}
use Rattle.qil_shadow.proofs.MemoryLemmas.{stack_laid}

-- bytes behind others that were laid
pub laid_append : (m : ByteOrigins) (a : ℕ) (xs ys : List ByteOrigin) → laid_origins (laid_origins m a xs) (a + length xs) ys ≡ laid_origins m a (xs ++ ys)
laid_append m a [] ys =
    let here : a + 0 ≡ a = omega arith in
    λ path. laid_origins (laid_none m a path) (here path) ys
laid_append m a (x ∷ xs) ys =
    let next : a + suc (length xs) ≡ a + 1 + length xs = omega arith in
    (λ path. laid_origins (sym (laid_more m a x xs) path) (next path) ys)
    ∙ laid_append (with_byte m a x) (a + 1) xs ys
    ∙ laid_more m a x (xs ++ ys)

numbers_and_more : (a b : ℕ) → replicate a bytes.Number ++ replicate b bytes.Number ≡ replicate (a + b) bytes.Number
numbers_and_more zero b = let same : b ≡ 0 + b = omega arith in λ path. replicate (same path) bytes.Number
numbers_and_more (suc a) b =
    let next : suc (a + b) ≡ suc a + b = omega arith in
    (λ path. bytes.Number ∷ numbers_and_more a b path) ∙ (λ path. replicate (next path) bytes.Number)

-- ---- one byte after the other

pub bytes_more : (old new : ByteOrigins) (a i n : ℕ) → i < n → new ≡ with_byte old (a + i) bytes.Number
    → laid_origins new (a + (i + 1)) (replicate (n - (i + 1)) bytes.Number) ≡ laid_origins old (a + i) (replicate (n - i) bytes.Number)
bytes_more old new a i n below is =
    let left : n - i ≡ suc (n - (i + 1)) = omega (arith, below) in
    let next : a + (i + 1) ≡ a + i + 1 = omega arith in
    rw (left, next, is) (laid_more old (a + i) bytes.Number (replicate (n - (i + 1)) bytes.Number))

pub bytes_done : (new x : ByteOrigins) (a i n : ℕ) → i ≡ n → laid_origins new (a + i) (replicate (n - i) bytes.Number) ≡ x → new ≡ x
bytes_done new x a i n e is =
    let left : n - i ≡ zero = omega (arith, e) in
    let none : laid_origins new (a + i) (replicate (n - i) bytes.Number) ≡ new = rw left (laid_none new (a + i)) in
    sym none ∙ is

-- ---- one word after the other

pub word_cleared : (ws now : List WordOrigin) (i : ℕ) → ws ≡ now → i < length now → kept (set ws i words.Numbers) ≡ laid_origins (kept now) (8 * i) (replicate 8 bytes.Number)
word_cleared ws now i same below =
    let there : i < length ws = rw same below in
    let place : 8 * i / 8 ≡ i = omega arith in
    (λ path. kept (set ws (sym place path) words.Numbers))
    ∙ word_stored ws (8 * i) origins.Number (omega arith) (omega (arith, place, there))
    ∙ (λ path. laid_origins (kept (same path)) (8 * i) (replicate 8 bytes.Number))

pub words_more : (old new : ByteOrigins) (f i n : ℕ) → i < n → new ≡ laid_origins old (8 * (f + i)) (replicate 8 bytes.Number)
    → laid_origins new (8 * (f + (i + 1))) (replicate (8 * (n - (i + 1))) bytes.Number) ≡ laid_origins old (8 * (f + i)) (replicate (8 * (n - i)) bytes.Number)
words_more old new f i n below is =
    let next : 8 * (f + (i + 1)) ≡ 8 * (f + i) + 8 = omega arith in
    let left : 8 + 8 * (n - (i + 1)) ≡ 8 * (n - i) = omega (arith, below) in
    (λ path. laid_origins (is path) (next path) (replicate (8 * (n - (i + 1))) bytes.Number))
    ∙ laid_append old (8 * (f + i)) (replicate 8 bytes.Number) (replicate (8 * (n - (i + 1))) bytes.Number)
    ∙ (λ path. laid_origins old (8 * (f + i)) ((numbers_and_more 8 (8 * (n - (i + 1))) ∙ (λ along. replicate (left along) bytes.Number)) path))

pub words_done : (new x : ByteOrigins) (f i n : ℕ) → i ≡ n → laid_origins new (8 * (f + i)) (replicate (8 * (n - i)) bytes.Number) ≡ x → new ≡ x
words_done new x f i n e is =
    let left : 8 * (n - i) ≡ zero = omega (arith, e) in
    let none : laid_origins new (8 * (f + i)) (replicate (8 * (n - i)) bytes.Number) ≡ new = rw left (laid_none new (8 * (f + i))) in
    sym none ∙ is

-- whole words
pub words_are_bytes : (new old : ByteOrigins) (a n : ℕ) → a % 8 ≡ 0 → n % 8 ≡ 0
    → new ≡ laid_origins old (8 * (a / 8)) (replicate (8 * (n / 8)) bytes.Number) → new ≡ laid_origins old a (replicate n bytes.Number)
words_are_bytes new old a n even whole is =
    let from : 8 * (a / 8) ≡ a = omega (arith, even) in
    let count : 8 * (n / 8) ≡ n = omega (arith, whole) in
    is ∙ (λ path. laid_origins old (from path) (replicate (count path) bytes.Number))

-- ---- in memory

pub clear_stack : (m seen : MemoryWords) (ws : List WordOrigin) (a at n : ℕ) → m ≡ seen → (a ≡ stack_base + at) × (at + n ≤ capacity)
    → kept ws ≡ laid_origins (kept m.stack_words) at (replicate n bytes.Number)
    → origins_in (record m { stack_words = ws }) ≡ laid_origins (origins_in seen) a (replicate n bytes.Number)
clear_stack m seen ws a at n same spot is =
    stack_laid m ws a at (replicate n bytes.Number) spot.0 is ∙ (λ path. laid_origins (origins_in (same path)) a (replicate n bytes.Number))
