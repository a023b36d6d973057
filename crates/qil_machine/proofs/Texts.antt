-- A text in memory, as far as it was looked at.
use Rattle.std.proofs.Common.{◌≡◌, refl, sym, ap, ◌∙◌, subst, ℕ, zero, suc, ◌+◌, ◌≤◌, List, [], ◌∷◌, ◌++◌, length, Some, None, Ok, Err, append_assoc, arith}
use Rattle.std.specs.Prelude.{unwrap_or}
use Rattle.std.proofs.lemmas.List.{append-nil, length-append}
use Rattle.qil_memory.specs.Live.{Live}
use Rattle.qil_memory.specs.Buffers.{stack_end}
use Rattle.qil_semantics.specs.State.{dead_address}
use Rattle.qil_semantics.specs.Calls.{text_at}
use Rattle.qil_semantics.specs.Laws.{IsText, IsCutAfter}
use Rattle.qil_semantics.proofs.TextLemmas.{text-at, cut-at}
use Rattle.qil_machine.specs.Calls.{bytes_from, AreLive}
use borrow.Author.Count.{below_more}

pub length_bytes : (m : Live) (a n : ℕ) → length (bytes_from m a n) ≡ n
length_bytes m a zero = refl
length_bytes m a (suc n) = let more = length_bytes m a n in length-append (bytes_from m a n) (unwrap_or (m (a + n)) 0 ∷ []) ∙ omega (arith, more)

pub bytes_more : (m : Live) (a n b : ℕ) → Some b ≡ m (a + n) → bytes_from m a (n + 1) ≡ bytes_from m a n ++ b ∷ []
bytes_more m a n b e = let one : n + 1 ≡ suc n = omega arith in ap (bytes_from m a) one ∙ ap (λ o. bytes_from m a n ++ unwrap_or o 0 ∷ []) (sym e)

-- n bytes from an address on are live and not zero: whatever text or cut stands after them is at the address, with them before it
pub record IsPast (m : Live) (a n : ℕ) : Type 0 where
  pub live : AreLive m a n
  pub text : (bs : List ℕ) → IsText m (a + n) bs → IsText m a (bytes_from m a n ++ bs)
  pub cut : (k : ℕ) → IsCutAfter m (a + n) k → IsCutAfter m a (n + k)

pub past_none : (m : Live) (a : ℕ) → IsPast m a 0
past_none m a =
    let at : a + 0 ≡ a = omega arith in
    record {
      live = λ i l e. omega (arith, l);
      text = λ bs t. subst (λ b. IsText m b bs) at t;
      cut = λ k c. let none : k ≡ 0 + k = omega arith in subst (λ j. IsCutAfter m a j) none (subst (λ b. IsCutAfter m b k) at c);
    }

pub past_more : (m : Live) (a n b : ℕ) → IsPast m a n → Some b ≡ m (a + n) → (b ≡ 0 → ⊥) → IsPast m a (n + 1)
past_more m a n zero past e ne = absurd (ne refl)
past_more m a n (suc b) past e ne =
    let at : a + (n + 1) ≡ a + n + 1 = omega arith in
    record {
      live = below_more (λ i. m (a + i) ≡ None → ⊥) n past.live (λ none. cc);
      text = λ bs t.
          let all : bytes_from m a n ++ (suc b ∷ bs) ≡ bytes_from m a (n + 1) ++ bs =
          sym (append_assoc (bytes_from m a n) (suc b ∷ []) bs) ∙ ap (λ cs. cs ++ bs) (sym (bytes_more m a n (suc b) e)) in
          subst (IsText m a) all (past.text (suc b ∷ bs) (sym e, subst (λ c. IsText m c bs) at t));
      cut = λ k c.
          let more : n + suc k ≡ n + 1 + k = omega arith in
          subst (IsCutAfter m a) more (past.cut (suc k) (b, sym e, subst (λ d. IsCutAfter m d k) at c));
    }

pub past_text : (m : Live) (a n : ℕ) → IsPast m a n → Some 0 ≡ m (a + n) → n ≤ stack_end → text_at m a ≡ Ok (bytes_from m a n)
past_text m a n past e l =
    let long = length_bytes m a n in
    text-at m a (bytes_from m a n) (omega (arith, long, l)) (subst (IsText m a) (append-nil (bytes_from m a n)) (past.text [] (sym e)))

pub past_cut : (m : Live) (a n : ℕ) → IsPast m a n → None ≡ m (a + n) → n ≤ stack_end → text_at m a ≡ Err (dead_address (a + n))
past_cut m a n past e l = let none : n + 0 ≡ n = omega arith in cut-at m a n l (subst (IsCutAfter m a) none (past.cut 0 (sym e)))
