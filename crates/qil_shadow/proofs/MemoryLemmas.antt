-- What the bytes of the data or of the stack are made of is what those of memory are made of at these addresses.
use Rattle.std.proofs.Common.{◌≡◌, ℕ, zero, suc, ◌+◌, ◌-◌, ◌<◌, ◌≤◌, true, false, ltb, leb, length, List, ◌∷◌, unwrap_or, slice_get, subst, refl, sym, ◌∙◌, ap, arith, inl, inr}
use Rattle.std.proofs.lemmas.Bool.{cases_lt}
use Rattle.std.proofs.lemmas.Bool.Decides.{nat_tests}
use Rattle.std.proofs.lemmas.Option.{slice_get_past}
use Rattle.qil_memory.specs.qil_layout.Layout.{data_base}
use Rattle.qil_memory.specs.Buffers.{stack_base, capacity}
use Rattle.qil_tree.specs.declared.ops.Class.{Class}
use Rattle.qil_shadow.specs.declared.origin.ByteOrigin.{ByteOrigin}
use Rattle.qil_shadow.specs.declared.origin.ByteOrigin.TheVariants as bytes
use Rattle.qil_shadow.specs.declared.region.WordOrigin.{WordOrigin}
use Rattle.qil_shadow.specs.declared.origin.Origin.{Origin}
use Rattle.qil_shadow.specs.Bytes.{ByteOrigins, origins_at, laid_origins, stored_origins, joined}
use Rattle.qil_shadow.specs.Words.{kept}
use Rattle.qil_shadow.specs.declared.memory.Spot.{Spot}
use Rattle.qil_shadow.specs.declared.memory.Spot.TheVariants as spots
use Rattle.qil_shadow.specs.Shadow.{all_numbers}
use Rattle.qil_shadow.specs.Spots.{MemoryWords, IsSpotOf, origins_in}
use Rattle.qil_shadow.proofs.StoreLemmas.{length-bytes_from}

-- ---- one byte

pub at_data : (m : MemoryWords) (j at : ℕ) → j ≡ data_base + at → j < stack_base → origins_in m j ≡ kept m.data_words at
unfolding origins_in
at_data m j at e low =
    let not_stack : leb stack_base j ≡ false = grind (arith, nat_tests) in
    let is_data : leb data_base j ≡ true = grind (arith, nat_tests) in
    let place : j - data_base ≡ at = omega (arith, e) in
    rw (not_stack, is_data, place) refl

pub at_stack : (m : MemoryWords) (j at : ℕ) → j ≡ stack_base + at → origins_in m j ≡ kept m.stack_words at
unfolding origins_in
at_stack m j at e =
    let is_stack : leb stack_base j ≡ true = grind (arith, nat_tests) in
    let place : j - stack_base ≡ at = omega (arith, e) in
    rw (is_stack, place) refl

pub at_none : (m : MemoryWords) (j : ℕ) → j < data_base → origins_in m j ≡ bytes.Number
unfolding origins_in
at_none m j low =
    let not_stack : leb stack_base j ≡ false = grind (arith, nat_tests) in
    let not_data : leb data_base j ≡ false = grind (arith, nat_tests) in
    rw (not_stack, not_data) refl

-- ---- several

same_origins : (f g : ByteOrigins) (a b n : ℕ) → ((k : ℕ) → k < n → f (a + k) ≡ g (b + k)) → origins_at f a n ≡ origins_at g b n
same_origins f g a b zero each = refl
same_origins f g a b (suc n) each =
    let left : a ≡ a + 0 = omega arith in
    let right : b + 0 ≡ b = omega arith in
    let first : f a ≡ g b = ap f left ∙ each 0 (omega arith) ∙ ap g right in
    let others : origins_at f (a + 1) n ≡ origins_at g (b + 1) n =
    same_origins f g (a + 1) (b + 1) n (λ k below.
    let on : a + 1 + k ≡ a + suc k = omega arith in
    let back : b + suc k ≡ b + 1 + k = omega arith in
    ap f on ∙ each (suc k) (omega (arith, below)) ∙ ap g back) in
    λ path. first path ∷ others path

pub data_origins : (m : MemoryWords) (a at n : ℕ) → a ≡ data_base + at → at + n ≤ capacity → origins_at (kept m.data_words) at n ≡ origins_at (origins_in m) a n
data_origins m a at n e fits =
    same_origins (kept m.data_words) (origins_in m) at a n (λ k below. sym (at_data m (a + k) (at + k) (omega (arith, e)) (omega (arith, e, fits, below))))

pub stack_origins : (m : MemoryWords) (a at n : ℕ) → a ≡ stack_base + at → at + n ≤ capacity → origins_at (kept m.stack_words) at n ≡ origins_at (origins_in m) a n
stack_origins m a at n e fits =
    same_origins (kept m.stack_words) (origins_in m) at a n (λ k below. sym (at_stack m (a + k) (at + k) (omega (arith, e))))

-- ---- laid over the others

pub laid_before : (m : ByteOrigins) (a : ℕ) (bs : List ByteOrigin) (j : ℕ) → j < a → laid_origins m a bs j ≡ m j
unfolding laid_origins
laid_before m a bs j h = let t : ltb j a ≡ true = grind (arith, nat_tests) in rw t refl

pub laid_from : (m : ByteOrigins) (a : ℕ) (bs : List ByteOrigin) (j k : ℕ) → j ≡ a + k → laid_origins m a bs j ≡ unwrap_or (slice_get bs k) (m j)
unfolding laid_origins
laid_from m a bs j k e =
    let t : ltb j a ≡ false = grind (arith, nat_tests) in
    let place : j - a ≡ k = omega (arith, e) in
    rw (t, place) refl

pub laid_past : (m : ByteOrigins) (a : ℕ) (bs : List ByteOrigin) (j : ℕ) → a + length bs ≤ j → laid_origins m a bs j ≡ m j
laid_past m a bs j h = laid_from m a bs j (j - a) (omega arith) ∙ ap (λ o. unwrap_or o (m j)) (slice_get_past bs (j - a) (omega (arith, h)))

-- over other maps with the same bytes
laid_moved : (f g : ByteOrigins) (a b : ℕ) (bs : List ByteOrigin) (j k : ℕ) → a + k ≡ b + j → f j ≡ g k → laid_origins f a bs j ≡ laid_origins g b bs k
laid_moved f g a b bs j k e h = elim (cases_lt j a) [
  | inl before ↦ laid_before f a bs j before ∙ h ∙ sym (laid_before g b bs k (omega (arith, e, before)))
  | inr from ↦ laid_from f a bs j (j - a) (omega (arith, from)) ∙ ap (unwrap_or (slice_get bs (j - a))) h ∙ sym (laid_from g b bs k (j - a) (omega (arith, e, from)))
]

data_laid_at : (m : MemoryWords) (ws : List WordOrigin) (a at : ℕ) (bs : List ByteOrigin) (j : ℕ) → a ≡ data_base + at → at + length bs ≤ capacity
    → kept ws ≡ laid_origins (kept m.data_words) at bs → origins_in (record m { data_words = ws }) j ≡ laid_origins (origins_in m) a bs j
data_laid_at m ws a at bs j e fits is = elim (cases_lt j data_base) [
  | inl low ↦ at_none (record m { data_words = ws }) j low ∙ sym (at_none m j low) ∙ sym (laid_before (origins_in m) a bs j (omega (arith, e, low)))
  | inr high ↦ elim (cases_lt j stack_base) [
    | inl inside ↦
        at_data (record m { data_words = ws }) j (j - data_base) (omega (arith, high)) inside
        ∙ ap (λ (f : ByteOrigins). f (j - data_base)) is
        ∙ laid_moved (kept m.data_words) (origins_in m) at a bs (j - data_base) j (omega (arith, e, high)) (sym (at_data m j (j - data_base) (omega (arith, high)) inside))
    | inr above ↦
        at_stack (record m { data_words = ws }) j (j - stack_base) (omega (arith, above))
        ∙ sym (at_stack m j (j - stack_base) (omega (arith, above)))
        ∙ sym (laid_past (origins_in m) a bs j (omega (arith, e, fits, above)))
  ]
]

pub data_laid : (m : MemoryWords) (ws : List WordOrigin) (a at : ℕ) (bs : List ByteOrigin) → a ≡ data_base + at → at + length bs ≤ capacity
    → kept ws ≡ laid_origins (kept m.data_words) at bs → origins_in (record m { data_words = ws }) ≡ laid_origins (origins_in m) a bs
data_laid m ws a at bs e fits is = λ path j. data_laid_at m ws a at bs j e fits is path

stack_laid_at : (m : MemoryWords) (ws : List WordOrigin) (a at : ℕ) (bs : List ByteOrigin) (j : ℕ) → a ≡ stack_base + at
    → kept ws ≡ laid_origins (kept m.stack_words) at bs → origins_in (record m { stack_words = ws }) j ≡ laid_origins (origins_in m) a bs j
stack_laid_at m ws a at bs j e is = elim (cases_lt j data_base) [
  | inl low ↦ at_none (record m { stack_words = ws }) j low ∙ sym (at_none m j low) ∙ sym (laid_before (origins_in m) a bs j (omega (arith, e, low)))
  | inr high ↦ elim (cases_lt j stack_base) [
    | inl inside ↦
        at_data (record m { stack_words = ws }) j (j - data_base) (omega (arith, high)) inside
        ∙ sym (at_data m j (j - data_base) (omega (arith, high)) inside)
        ∙ sym (laid_before (origins_in m) a bs j (omega (arith, e, inside)))
    | inr above ↦
        at_stack (record m { stack_words = ws }) j (j - stack_base) (omega (arith, above))
        ∙ ap (λ (f : ByteOrigins). f (j - stack_base)) is
        ∙ laid_moved (kept m.stack_words) (origins_in m) at a bs (j - stack_base) j (omega (arith, e, above)) (sym (at_stack m j (j - stack_base) (omega (arith, above))))
  ]
]

pub stack_laid : (m : MemoryWords) (ws : List WordOrigin) (a at : ℕ) (bs : List ByteOrigin) → a ≡ stack_base + at
    → kept ws ≡ laid_origins (kept m.stack_words) at bs → origins_in (record m { stack_words = ws }) ≡ laid_origins (origins_in m) a bs
stack_laid m ws a at bs e is = λ path j. stack_laid_at m ws a at bs j e is path

-- all are numbers at first
fresh_at : (m : MemoryWords) (j : ℕ) → kept m.data_words ≡ all_numbers → kept m.stack_words ≡ all_numbers → origins_in m j ≡ bytes.Number
fresh_at m j datas stacks = elim (cases_lt j data_base) [
  | inl low ↦ at_none m j low
  | inr high ↦ elim (cases_lt j stack_base) [
    | inl inside ↦ at_data m j (j - data_base) (omega (arith, high)) inside ∙ ap (λ (f : ByteOrigins). f (j - data_base)) datas
    | inr above ↦ at_stack m j (j - stack_base) (omega (arith, above)) ∙ ap (λ (f : ByteOrigins). f (j - stack_base)) stacks
  ]
]

pub memory_fresh : (m : MemoryWords) → kept m.data_words ≡ all_numbers → kept m.stack_words ≡ all_numbers → origins_in m ≡ all_numbers
memory_fresh m datas stacks = λ path j. fresh_at m j datas stacks path

-- ---- as the code has it

pub spot_data : (a n at : ℕ) (s : Spot) → s ≡ spots.Data at → IsSpotOf a n s → (a ≡ data_base + at) × (at + n ≤ capacity)
spot_data a n at s e h = let P : Spot → Type 0 = λ x. IsSpotOf a n x in subst P e h

pub spot_stack : (a n at : ℕ) (s : Spot) → s ≡ spots.Stack at → IsSpotOf a n s → (a ≡ stack_base + at) × (at + n ≤ capacity)
spot_stack a n at s e h = let P : Spot → Type 0 = λ x. IsSpotOf a n x in subst P e h

-- a load from the data, or from the stack
pub load_data : (c : Class) (m seen : MemoryWords) (r : Origin) (a at n : ℕ) → m ≡ seen → (a ≡ data_base + at) × (at + n ≤ capacity)
    → r ≡ joined c (origins_at (kept m.data_words) at n) → r ≡ joined c (origins_at (origins_in seen) a n)
load_data c m seen r a at n same spot is = is ∙ ap (joined c) (data_origins m a at n spot.0 spot.1) ∙ (λ path. joined c (origins_at (origins_in (same path)) a n))

pub load_stack : (c : Class) (m seen : MemoryWords) (r : Origin) (a at n : ℕ) → m ≡ seen → (a ≡ stack_base + at) × (at + n ≤ capacity)
    → r ≡ joined c (origins_at (kept m.stack_words) at n) → r ≡ joined c (origins_at (origins_in seen) a n)
load_stack c m seen r a at n same spot is = is ∙ ap (joined c) (stack_origins m a at n spot.0 spot.1) ∙ (λ path. joined c (origins_at (origins_in (same path)) a n))

-- a store there
pub store_data : (m seen : MemoryWords) (ws : List WordOrigin) (a at n : ℕ) (o : Origin) → m ≡ seen → (a ≡ data_base + at) × (at + n ≤ capacity)
    → kept ws ≡ laid_origins (kept m.data_words) at (stored_origins n o) → origins_in (record m { data_words = ws }) ≡ laid_origins (origins_in seen) a (stored_origins n o)
store_data m seen ws a at n o same spot is =
    data_laid m ws a at (stored_origins n o) spot.0 (let long = length-bytes_from n o 0 n in let fits = spot.1 in omega (arith, long, fits)) is
    ∙ (λ path. laid_origins (origins_in (same path)) a (stored_origins n o))

pub store_stack : (m seen : MemoryWords) (ws : List WordOrigin) (a at n : ℕ) (o : Origin) → m ≡ seen → (a ≡ stack_base + at) × (at + n ≤ capacity)
    → kept ws ≡ laid_origins (kept m.stack_words) at (stored_origins n o) → origins_in (record m { stack_words = ws }) ≡ laid_origins (origins_in seen) a (stored_origins n o)
store_stack m seen ws a at n o same spot is =
    stack_laid m ws a at (stored_origins n o) spot.0 is ∙ (λ path. laid_origins (origins_in (same path)) a (stored_origins n o))
