-- The bits of shifted numbers.
use Rattle.std.proofs.Common.{◌≡◌, ℕ, ◌+◌, ◌-◌, ◌*◌, ◌/◌, ◌%◌, ◌^◌, ◌<◌, ◌≤◌, nat_lt, if◌then◌else◌, pos, negsuc, ◌-ℤ◌, refl, sym, ap, subst, ◌∙◌, arith, ⊎_elim}
use Rattle.std.proofs.Math.Nat.{div-div-eq-div-mul, div-le_self, div-lt_iff_lt-mul, mod-lt, mod-eq_of_lt}
use Rattle.std.proofs.lemmas.Nat.{pow_pos, pow-add, div-add-mod', div-mul-add}
use Rattle.std.proofs.lemmas.Nat.Bits.{bit_at-zero, bit_at_above, bit_at_ones, bit_at_cat_low, bit_at_cat_high}
use Rattle.std.proofs.lemmas.Bool.{cases_lt, lt-ltb, le-ltb}
use Rattle.std.proofs.lemmas.Int.{ints}
use Rattle.std.specs.Prelude.{unsigned_abs}
use Rattle.std.specs.Int.{bit_at, int_div_euclid, int_rem_euclid}
use Rattle.qil_ops.specs.Values.{as_bits}
use Rattle.qil_ops.specs.Operations.{shifted_left, shifted_right, sign_shifted_right}

-- the low n bits are those of the number
bit_at_low : (x n i : ℕ) → i < n → bit_at (x % 2 ^ n) i ≡ bit_at x i
bit_at_low x n i h = sym (bit_at_cat_low (x / 2 ^ n) n (x % 2 ^ n) i h) ∙ ap (λ y. bit_at y i) (div-add-mod' x (2 ^ n))

bit_at_quotient : (x k i : ℕ) → bit_at (x / 2 ^ k) i ≡ bit_at x (i + k)
bit_at_quotient x k i =
    let e : 2 ^ k * 2 ^ i ≡ 2 ^ (i + k) = sym (pow-add 2 k i) ∙ (let c : k + i ≡ i + k = omega arith in ap (λ j. 2 ^ j) c) in
    ap (λ y. y % 2) (div-div-eq-div-mul x (2 ^ k) (2 ^ i) ∙ ap (λ y. x / y) e)

bit_at_multiple_low : (x k i : ℕ) → i < k → bit_at (x * 2 ^ k) i ≡ 0
bit_at_multiple_low x k i h = let e : x * 2 ^ k ≡ x * 2 ^ k + 0 = omega arith in ap (λ y. bit_at y i) e ∙ bit_at_cat_low x k 0 i h ∙ bit_at-zero i

bit_at_multiple_high : (x k i : ℕ) → k ≤ i → bit_at (x * 2 ^ k) i ≡ bit_at x (i - k)
bit_at_multiple_high x k i h = let e : x * 2 ^ k ≡ x * 2 ^ k + 0 = omega arith in ap (λ y. bit_at y i) e ∙ bit_at_cat_high x k 0 i (pow_pos k) h

pub shl_bits : (n a k i : ℕ) → i < n → bit_at (shifted_left n a k) i ≡ (if nat_lt i k then 0 else bit_at a (i - k))
shl_bits n a k i h = bit_at_low (a * 2 ^ k) n i h ∙ ⊎_elim
    (λ (u : i < k). bit_at_multiple_low a k i u ∙ rw (lt-ltb i k u) refl)
    (λ (u : k ≤ i). bit_at_multiple_high a k i u ∙ rw (le-ltb i k u) refl)
    (cases_lt i k)

-- a number of n bits, moved right
low_quotient : (n a k i : ℕ) → bit_at (a % 2 ^ n / 2 ^ k) i ≡ (if nat_lt (i + k) n then bit_at a (i + k) else 0)
low_quotient n a k i = bit_at_quotient (a % 2 ^ n) k i ∙ ⊎_elim
    (λ (u : i + k < n). bit_at_low a n (i + k) u ∙ rw (lt-ltb (i + k) n u) refl)
    (λ (u : n ≤ i + k). bit_at_above (a % 2 ^ n) n (i + k) (mod-lt a (pow_pos n)) u ∙ rw (le-ltb (i + k) n u) refl)
    (cases_lt (i + k) n)

pub shr_bits : (n a k i : ℕ) → i < n → bit_at (shifted_right n a k) i ≡ (if nat_lt (i + k) n then bit_at a (i + k) else 0)
shr_bits n a k i h = low_quotient n a k i

-- what is left of a multiple of K when a number below it is taken off, divided by K
quotient_left : (K t q s : ℕ) → s < K → ((t + 1 + q) * K - (q * K + s + 1)) / K ≡ t
quotient_left K t q s h =
    let e : (t + 1 + q) * K ≡ t * K + K + q * K = grind arith in
    let f : (t + 1 + q) * K - (q * K + s + 1) ≡ t * K + (K - (s + 1)) = omega arith in
    rw f (div-mul-add t K (K - (s + 1)) (omega arith))

one_more : (m j : ℕ) → m * (j + 1) ≡ j * m + m
one_more m j = grind arith

-- a negative number of n bits, moved right: ones, and then its bits. N is 2 ^ n, K is 2 ^ k, M is 2 ^ (n - k)
negative_shifted : (K M N q s l : ℕ) → s < K → q < M → N ≡ M * K → l ≡ q * K + s → unsigned_abs (int_rem_euclid (int_div_euclid (pos l -ℤ pos N) (pos K)) (pos N)) ≡ (K - 1) * M + q
negative_shifted K M N q s l small few e f =
    let t : ℕ = M - (q + 1) in
    let parts : M ≡ t + 1 + q = omega arith in
    let whole : N ≡ (t + 1 + q) * K = e ∙ ap (λ x. x * K) parts in
    let sum : (t + 1 + q) * K ≡ t * K + K + q * K = grind arith in
    let less : M * K ≡ (K - 1) * M + M = (let j : K ≡ (K - 1) + 1 = omega arith in ap (λ x. M * x) j) ∙ one_more M (K - 1) in
    let one : M ≤ M * K = grind arith in
    let shown : (pos l -ℤ pos N) ≡ negsuc (N - (l + 1)) = omega (arith, ints) in
    let left : N - (l + 1) ≡ (t + 1 + q) * K - (q * K + s + 1) = omega arith in
    let quotient : (N - (l + 1)) / K ≡ t = ap (λ x. x / K) left ∙ quotient_left K t q s small in
    let again : t % N ≡ t = mod-eq_of_lt (omega arith) in
    rw (shown, quotient, again) (omega arith)

ones_above : (n k q i : ℕ) → k < n → q < 2 ^ (n - k) → i < n → n ≤ i + k → bit_at ((2 ^ k - 1) * 2 ^ (n - k) + q) i ≡ 1
ones_above n k q i h few in_n past =
    bit_at_cat_high (2 ^ k - 1) (n - k) q i few (omega arith) ∙ bit_at_ones k (i - (n - k)) (omega arith)

top_bit : (n l : ℕ) → 0 < n → 2 ^ (n - 1) ≤ l → l < 2 ^ n → bit_at l (n - 1) ≡ 1
top_bit n l some high low =
    let double : 2 ^ n ≡ 2 ^ (n - 1) * 2 = (let j : n ≡ (n - 1) + 1 = omega arith in ap (λ x. 2 ^ x) j) ∙ pow-add 2 (n - 1) 1 in
    let one : l / 2 ^ (n - 1) ≡ 1 = (let j : l ≡ 1 * 2 ^ (n - 1) + (l - 2 ^ (n - 1)) = omega arith in ap (λ x. x / 2 ^ (n - 1)) j) ∙ div-mul-add 1 (2 ^ (n - 1)) (l - 2 ^ (n - 1)) (omega arith) in
    ap (λ x. x % 2) one

sar_negative : (n a k i : ℕ) → i < n → k < n → 2 ^ (n - 1) ≤ a % 2 ^ n → bit_at (as_bits n (int_div_euclid (pos (a % 2 ^ n) -ℤ pos (2 ^ n)) (pos (2 ^ k)))) i ≡ (if nat_lt (i + k) n then bit_at a (i + k) else bit_at a (n - 1))
sar_negative n a k i h k_lt high =
    let l : ℕ = a % 2 ^ n in
    let l_lt : l < 2 ^ n = mod-lt a (pow_pos n) in
    let split : 2 ^ n ≡ 2 ^ (n - k) * 2 ^ k = (let j : n ≡ (n - k) + k = omega arith in ap (λ x. 2 ^ x) j) ∙ pow-add 2 (n - k) k in
    let few : l / 2 ^ k < 2 ^ (n - k) = (div-lt_iff_lt-mul {k = 2 ^ k} {x = l} {y = 2 ^ (n - k)} (pow_pos k)).1 (subst (λ x. l < x) split l_lt) in
    ap (λ x. bit_at x i) (negative_shifted (2 ^ k) (2 ^ (n - k)) (2 ^ n) (l / 2 ^ k) (l % 2 ^ k) l (mod-lt l (pow_pos k)) few split (sym (div-add-mod' l (2 ^ k)))) ∙ ⊎_elim
    (λ (u : i + k < n). bit_at_cat_low (2 ^ k - 1) (n - k) (l / 2 ^ k) i (omega arith) ∙ bit_at_quotient l k i ∙ bit_at_low a n (i + k) u ∙ rw (lt-ltb (i + k) n u) refl)
    (λ (u : n ≤ i + k). ones_above n k (l / 2 ^ k) i k_lt few h u ∙ sym (top_bit n l (omega arith) high l_lt) ∙ bit_at_low a n (n - 1) (omega arith) ∙ rw (le-ltb (i + k) n u) refl)
    (cases_lt (i + k) n)

sar_positive : (n a k i : ℕ) → i < n → a % 2 ^ n < 2 ^ (n - 1) → bit_at (as_bits n (int_div_euclid (pos (a % 2 ^ n)) (pos (2 ^ k)))) i ≡ (if nat_lt (i + k) n then bit_at a (i + k) else bit_at a (n - 1))
sar_positive n a k i h low =
    let l_lt : a % 2 ^ n < 2 ^ n = mod-lt a (pow_pos n) in
    let q_le : a % 2 ^ n / 2 ^ k ≤ a % 2 ^ n = div-le_self (a % 2 ^ n) (2 ^ k) in
    let again : a % 2 ^ n / 2 ^ k % 2 ^ n ≡ a % 2 ^ n / 2 ^ k = mod-eq_of_lt (omega arith) in
    ap (λ x. bit_at x i) again ∙ low_quotient n a k i ∙ ⊎_elim
    (λ (u : i + k < n). rw (lt-ltb (i + k) n u) refl)
    (λ (u : n ≤ i + k). rw (le-ltb (i + k) n u) (sym (bit_at_above (a % 2 ^ n) (n - 1) (n - 1) low (omega arith)) ∙ bit_at_low a n (n - 1) (omega arith)))
    (cases_lt (i + k) n)

pub sar_bits : (n a k i : ℕ) → i < n → k < n → bit_at (sign_shifted_right n a k) i ≡ (if nat_lt (i + k) n then bit_at a (i + k) else bit_at a (n - 1))
sar_bits n a k i h k_lt = ⊎_elim
    (λ (u : a % 2 ^ n < 2 ^ (n - 1)). rw (lt-ltb (a % 2 ^ n) (2 ^ (n - 1)) u) (sar_positive n a k i h u))
    (λ (u : 2 ^ (n - 1) ≤ a % 2 ^ n). rw (le-ltb (a % 2 ^ n) (2 ^ (n - 1)) u) (sar_negative n a k i h k_lt u))
    (cases_lt (a % 2 ^ n) (2 ^ (n - 1)))
