-- Numbers that are read byte by byte, the most significant one first.
use Rattle.std.proofs.Common.{◌≡◌, refl, sym, ap, ◌∙◌, ℕ, zero, suc, ◌+◌, ◌*◌, ◌^◌, ◌<◌, ◌≤◌, List, [], ◌∷◌, Some, None, inl, inr, arith}
use Rattle.std.proofs.Math.Nat.{pow-succ'}
use Rattle.qil_memory.specs.Bytes.{number}
use Rattle.qil_memory.specs.Calls.{IsWidth, loaded, if_live}
use Rattle.qil_memory.specs.Live.{Live, onto, read}
use Rattle.qil_memory.proofs.Maps.{read_none}
use Rattle.qrev_views.specs.Variables.{value_of}

-- so many bytes from an address on are live, and are this number
pub record IsRead (m : Live) (a k value : ℕ) : Type 0 where
  pub bytes : List ℕ
  pub live : read m a k ≡ Some bytes
  pub spells : value ≡ number bytes
  pub few : value < 256 ^ k

pub none-read : (m : Live) (a : ℕ) → IsRead m a 0 0
none-read m a = record { bytes = []; live = refl; spells = refl; few = omega arith }

-- a byte more before them
pub byte-read : (m : Live) (a after k value b : ℕ) → after ≡ a + 1 → IsRead m after k value → m a ≡ Some b → b < 256 → IsRead m a (k + 1) (value * 256 + b)
byte-read m a after k value b e is there byte =
    let one : k + 1 ≡ suc k = omega arith in
    let power : 256 ^ (k + 1) ≡ 256 * 256 ^ k = ap (λ n. 256 ^ n) one ∙ pow-succ' 256 k in
    let bound : value < 256 ^ k = is.few in
    let spells : value ≡ number is.bytes = is.spells in
    record {
      bytes = b ∷ is.bytes;
      live = ap (read m a) one ∙ ap (λ o. onto o (read m (a + 1) k)) there ∙ ap (λ (n : ℕ). onto (Some b) (read m n k)) (sym e) ∙ ap (onto (Some b)) is.live;
      spells = omega (arith, spells);
      few = omega (arith, bound, power, byte);
    }

-- there is room for one more
pub room : (k value : ℕ) → k < 8 → value < 256 ^ k → value < 2 ^ 56
room zero value lt few = let h : value < 1 = few in omega (arith, h)
room (suc zero) value lt few = let h : value < 256 = few in omega (arith, h)
room (suc (suc zero)) value lt few = let h : value < 65536 = few in omega (arith, h)
room (suc (suc (suc zero))) value lt few = let h : value < 16777216 = few in omega (arith, h)
room (suc (suc (suc (suc zero)))) value lt few = let h : value < 4294967296 = few in omega (arith, h)
room (suc (suc (suc (suc (suc zero))))) value lt few = let h : value < 1099511627776 = few in omega (arith, h)
room (suc (suc (suc (suc (suc (suc zero)))))) value lt few = let h : value < 281474976710656 = few in omega (arith, h)
room (suc (suc (suc (suc (suc (suc (suc zero))))))) value lt few = few
room (suc (suc (suc (suc (suc (suc (suc (suc k)))))))) value lt few = absurd (omega (arith, lt))

pub at-most-eight : (n : ℕ) → IsWidth n → n ≤ 8
at-most-eight n (inl e) = omega (arith, e)
at-most-eight n (inr (inl e)) = omega (arith, e)
at-most-eight n (inr (inr (inl e))) = omega (arith, e)
at-most-eight n (inr (inr (inr e))) = omega (arith, e)

-- all of them
pub all-read : (m : Live) (a from n k value : ℕ) → from ≡ a → k ≡ n → IsRead m from k value → Some value ≡ value_of (loaded m a n)
all-read m a from n k value e all is =
    let here : read m a n ≡ Some is.bytes = (λ i. read m (sym e i) (sym all i)) ∙ is.live in
    ap Some is.spells ∙ ap (λ o. value_of (if_live a number o)) (sym here)

pub one-dead : (m : Live) (a n k : ℕ) → k < n → m (a + k) ≡ None → None ≡ value_of (loaded m a n)
one-dead m a n k lt dead = ap (λ o. value_of (if_live a number o)) (sym (read_none m a n k lt dead))
