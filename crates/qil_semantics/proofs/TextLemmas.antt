-- What `text_at` means, as a relation.
use Rattle.std.proofs.Common.{◌≡◌, refl, ℕ, zero, suc, ◌+◌, ◌≤◌, List, [], ◌∷◌, length, Ok, Err, arith}
use Rattle.qil_memory.specs.Live.{Live}
use Rattle.qil_memory.specs.Buffers.{stack_end}
use Rattle.qil_semantics.specs.State.{dead_address}
use Rattle.qil_semantics.specs.Laws.{IsText, IsCutAfter}
use Rattle.qil_semantics.specs.Calls.{text_from, text_at}

text-from : (n : ℕ) (m : Live) (a : ℕ) (bs : List ℕ) → length bs ≤ n → IsText m a bs → text_from n m a (m a) ≡ Ok bs
text-from n m a [] h t = rw t refl
text-from n m a (zero ∷ bs) h t = absurd t
text-from zero m a (suc b ∷ bs) h t = absurd (omega (arith, h))
text-from (suc n) m a (suc b ∷ bs) h t = rw t.0 (rw (text-from n m (a + 1) bs (omega (arith, h)) t.1) refl)

pub text-at : (m : Live) (a : ℕ) (bs : List ℕ) → length bs ≤ stack_end → IsText m a bs → text_at m a ≡ Ok bs
unfolding text_at
text-at m a bs h t = text-from stack_end m a bs h t

cut-from : (n : ℕ) (m : Live) (a k : ℕ) → k ≤ n → IsCutAfter m a k → text_from n m a (m a) ≡ Err (dead_address (a + k))
cut-from n m a zero h t = let e : a + 0 ≡ a = omega arith in rw t (rw e refl)
cut-from zero m a (suc k) h t = absurd (omega (arith, h))
cut-from (suc n) m a (suc k) h t =
    let e : a + 1 + k ≡ a + suc k = omega arith in
    rw t.1 (rw (cut-from n m (a + 1) k (omega (arith, h)) t.2) (rw e refl))

pub cut-at : (m : Live) (a k : ℕ) → k ≤ stack_end → IsCutAfter m a k → text_at m a ≡ Err (dead_address (a + k))
unfolding text_at
cut-at m a k h t = cut-from stack_end m a k h t
