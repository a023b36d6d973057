-- What single bytes of memory are made of, and those that were copied.
use Rattle.std.proofs.Common.{◌≡◌, ℕ, zero, suc, ◌+◌, ◌-◌, ◌<◌, ◌≤◌, true, false, ◌==◌, ltb, length, List, [], ◌∷◌, ◌++◌, refl, sym, ◌∙◌, arith, inl, inr}
use Rattle.std.proofs.lemmas.Bool.{cases_lt, ne_eqb}
use Rattle.std.proofs.lemmas.Bool.Decides.{nat_tests}
use Rattle.qil_memory.specs.qil_layout.Layout.{data_base}
use Rattle.qil_memory.specs.Buffers.{stack_base, capacity}
use Rattle.qil_shadow.specs.declared.origin.ByteOrigin.{ByteOrigin}
use Rattle.qil_shadow.specs.declared.region.WordOrigin.{WordOrigin}
use Rattle.qil_shadow.specs.Bytes.{ByteOrigins, origins_at, laid_origins}
use Rattle.qil_shadow.specs.Words.{kept, with_byte}
use Rattle.qil_shadow.specs.Spots.{MemoryWords, HasSpot, origins_in}
use Rattle.qil_shadow.proofs.WordLemmas.{laid_more, laid_none}
use Rattle.qil_memory.specs.Calls.{overlap}
use Rattle.qil_shadow.proofs.MemoryLemmas.{at_data, at_stack, data_laid, stack_laid, laid_before, laid_past}

-- ---- one byte

one_byte : (m : ByteOrigins) (a : ℕ) (b : ByteOrigin) → with_byte m a b ≡ laid_origins m a (b ∷ [])
one_byte m a b = sym (laid_none (with_byte m a b) (a + 1)) ∙ laid_more m a b []

pub get_data : (m seen : MemoryWords) (r : ByteOrigin) (a at : ℕ) → m ≡ seen → (a ≡ data_base + at) × (at + 1 ≤ capacity) → r ≡ kept m.data_words at → r ≡ origins_in seen a
get_data m seen r a at same spot is =
    let here = spot.0 in
    let fits = spot.1 in
    is ∙ sym (at_data m a at here (omega (arith, here, fits))) ∙ (λ path. origins_in (same path) a)

pub get_stack : (m seen : MemoryWords) (r : ByteOrigin) (a at : ℕ) → m ≡ seen → (a ≡ stack_base + at) × (at + 1 ≤ capacity) → r ≡ kept m.stack_words at → r ≡ origins_in seen a
get_stack m seen r a at same spot is = is ∙ sym (at_stack m a at spot.0) ∙ (λ path. origins_in (same path) a)

pub set_data : (m seen : MemoryWords) (ws : List WordOrigin) (a at : ℕ) (b : ByteOrigin) → m ≡ seen → (a ≡ data_base + at) × (at + 1 ≤ capacity)
    → kept ws ≡ with_byte (kept m.data_words) at b → origins_in (record m { data_words = ws }) ≡ with_byte (origins_in seen) a b
set_data m seen ws a at b same spot is =
    data_laid m ws a at (b ∷ []) spot.0 spot.1 (is ∙ one_byte (kept m.data_words) at b) ∙ sym (one_byte (origins_in m) a b) ∙ (λ path. with_byte (origins_in (same path)) a b)

pub set_stack : (m seen : MemoryWords) (ws : List WordOrigin) (a at : ℕ) (b : ByteOrigin) → m ≡ seen → (a ≡ stack_base + at) × (at + 1 ≤ capacity)
    → kept ws ≡ with_byte (kept m.stack_words) at b → origins_in (record m { stack_words = ws }) ≡ with_byte (origins_in seen) a b
set_stack m seen ws a at b same spot is =
    stack_laid m ws a at (b ∷ []) spot.0 (is ∙ one_byte (kept m.stack_words) at b) ∙ sym (one_byte (origins_in m) a b) ∙ (λ path. with_byte (origins_in (same path)) a b)

-- ---- copies

length-origins_at : (m : ByteOrigins) (a n : ℕ) → length (origins_at m a n) ≡ n
length-origins_at m a zero = refl
length-origins_at m a (suc n) = let others = length-origins_at m (a + 1) n in omega (arith, others)

-- one byte more at the end
origins_more : (m : ByteOrigins) (a n : ℕ) → origins_at m a (suc n) ≡ origins_at m a n ++ (m (a + n) ∷ [])
origins_more m a zero = let here : a ≡ a + 0 = omega arith in λ path. m (here path) ∷ []
origins_more m a (suc n) =
    let next : a + 1 + n ≡ a + suc n = omega arith in
    λ path. m a ∷ (origins_more m (a + 1) n ∙ (λ along. origins_at m (a + 1) n ++ (m (next along) ∷ []))) path

laid_snoc : (m : ByteOrigins) (a k : ℕ) (xs : List ByteOrigin) (b : ByteOrigin) → k ≡ length xs → with_byte (laid_origins m a xs) (a + k) b ≡ laid_origins m a (xs ++ (b ∷ []))
laid_snoc m a k [] b e =
    let here : a + k ≡ a = omega (arith, e) in
    (λ path. with_byte (laid_none m a path) (here path) b) ∙ one_byte m a b
laid_snoc m a k (x ∷ xs) b e =
    let fewer : k - 1 ≡ length xs = omega (arith, e) in
    let next : a + k ≡ a + 1 + (k - 1) = omega (arith, e) in
    (λ path. with_byte (sym (laid_more m a x xs) path) (next path) b)
    ∙ laid_snoc (with_byte m a x) (a + 1) (k - 1) xs b fewer
    ∙ laid_more m a x (xs ++ (b ∷ []))

-- bytes that share none but the same lie apart
apart : (s t n : ℕ) → overlap s t n ≡ false → s < t → s + n ≤ t
apart s t n e low = elim (cases_lt t (s + n)) [
  | inl meets ↦
      let differ : (s == t) ≡ false = ne_eqb s t (λ same. omega (arith, same, low)) in
      let left : ltb s (t + n) ≡ true = grind (arith, nat_tests) in
      let right : ltb t (s + n) ≡ true = grind (arith, nat_tests) in
      let shared : overlap s t n ≡ true = rw (differ, left, right) refl in
      let wrong : true ≡ false = sym shared ∙ e in
      absurd (cc)
  | inr past ↦ past
]

-- so what is still to be copied is as it was
still_there : (m : ByteOrigins) (s t n i : ℕ) → overlap s t n ≡ false → i < n → laid_origins m t (origins_at m s i) (s + i) ≡ m (s + i)
still_there m s t n i e below = elim (cases_lt s t) [
  | inl low ↦ let far = apart s t n e low in laid_before m t (origins_at m s i) (s + i) (omega (arith, far, below))
  | inr high ↦ let count = length-origins_at m s i in laid_past m t (origins_at m s i) (s + i) (omega (arith, count, high))
]

pub copy_step : (old now new : ByteOrigins) (s t n i : ℕ) (b : ByteOrigin) → now ≡ laid_origins old t (origins_at old s i) → overlap s t n ≡ false → i < n
    → b ≡ now (s + i) → new ≡ with_byte now (t + i) b → new ≡ laid_origins old t (origins_at old s (i + 1))
copy_step old now new s t n i b is e below read written =
    let byte : b ≡ old (s + i) = read ∙ (λ path. is path (s + i)) ∙ still_there old s t n i e below in
    let count : i ≡ length (origins_at old s i) = sym (length-origins_at old s i) in
    let next : suc i ≡ i + 1 = omega arith in
    written
    ∙ (λ path. with_byte (is path) (t + i) (byte path))
    ∙ laid_snoc old t i (origins_at old s i) (old (s + i)) count
    ∙ (λ path. laid_origins old t (sym (origins_more old s i) path))
    ∙ (λ path. laid_origins old t (origins_at old s (next path)))

pub copy_none : (m : ByteOrigins) (t : ℕ) → m ≡ laid_origins m t []
copy_none m t = sym (laid_none m t)

pub spot_in : (a n i : ℕ) → HasSpot a n → i < n → HasSpot (a + i) 1
spot_in a n i (inl there) below = let low = there.0 in let high = there.1 in inl (omega (arith, low), omega (arith, high, below))
spot_in a n i (inr there) below = let low = there.0 in let high = there.1 in inr (omega (arith, low), omega (arith, high, below))

pub copy_done : (x old : ByteOrigins) (s t i n : ℕ) → i ≡ n → x ≡ laid_origins old t (origins_at old s i) → x ≡ laid_origins old t (origins_at old s n)
copy_done x old s t i n e is = is ∙ (λ path. laid_origins old t (origins_at old s (e path)))
