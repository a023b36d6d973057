-- Two spans that overlap share some bytes, and not all.
use Rattle.std.proofs.Common.{◌≡◌, ℕ, ◌+◌, ◌-◌, ◌<◌, ◌≤◌, true, subst, arith, ⊎_elim}
use Rattle.std.proofs.lemmas.Bool.{cases_lt}
use Rattle.std.proofs.lemmas.Bool.Decides.{nat_tests}
use Rattle.qil_memory.specs.Calls.{overlap}
use Rattle.qil_memory.specs.Laws.{IsIn, ShareOne, HasOther}

target_before_end : (s t n : ℕ) → overlap s t n ≡ true → t < s + n
target_before_end s t n o = grind (arith, nat_tests)

source_before_end : (s t n : ℕ) → overlap s t n ≡ true → s < t + n
source_before_end s t n o = grind (arith, nat_tests)

differ : (s t n : ℕ) → overlap s t n ≡ true → t ≤ s → t < s
differ s t n o le = grind (arith, nat_tests)

shares_one : (s t n : ℕ) → overlap s t n ≡ true → ShareOne s t n
shares_one s t n o =
    let before = source_before_end s t n o in
    let after = target_before_end s t n o in
    ⊎_elim
    (λ lt. (t, (omega (arith, lt), omega (arith, after)), (omega arith, omega (arith, lt, after))))
    (λ ge. (s, (omega arith, omega (arith, ge, before)), (omega (arith, ge), omega (arith, before))))
    (cases_lt s t)

has_other : (s t n : ℕ) → overlap s t n ≡ true → HasOther s t n
has_other s t n o =
    let before = source_before_end s t n o in
    let after = target_before_end s t n o in
    ⊎_elim
    (λ lt. (s, (omega arith, omega (arith, lt, after)), λ among. absurd (omega (arith, lt, among.0))))
    (λ ge. let more = differ s t n o ge in (s + n - 1, (omega (arith, more, before), omega (arith, more, before)), λ among. absurd (omega (arith, more, before, among.1))))
    (cases_lt s t)

overlap_of : (s t n a b : ℕ) → IsIn s n a → IsIn t n a → IsIn s n b → ¬ (IsIn t n b) → overlap s t n ≡ true
overlap_of s t n a b first second other lacks =
    let apart : ¬ (s ≡ t) = λ e. lacks (subst (λ x. IsIn x n b) e other) in
    let before : s < t + n = omega (arith, first.0, second.1) in
    let after : t < s + n = omega (arith, second.0, first.1) in
    grind (arith, nat_tests)

pub overlap_is : (s t n : ℕ) → (overlap s t n ≡ true → ShareOne s t n × HasOther s t n) × (ShareOne s t n × HasOther s t n → overlap s t n ≡ true)
overlap_is s t n = (λ o. (shares_one s t n o, has_other s t n o), λ h. overlap_of s t n h.0.0 h.1.0 h.0.1 h.0.2 h.1.1 h.1.2)

pub overlap_either_way : (s t n : ℕ) → overlap s t n ≡ overlap t s n
overlap_either_way s t n = grind (arith, nat_tests)
