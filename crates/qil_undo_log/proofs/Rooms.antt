-- Room is made for one more, and then it is put in.
use Rattle.std.proofs.Common.{◌≡◌, ℕ, suc, ◌+◌, ◌-◌, ◌<◌, ◌≤◌, ◌==◌, List, [], ◌∷◌, ◌++◌, length, drop, Result, Ok, Err, IsOk, OnOk, IfErr, ap, sym, ◌∙◌, subst, refl, arith, true, false, ⊎_elim}
use Rattle.std.specs.Prelude.{◌↔◌}
use Rattle.std.proofs.lemmas.List.{length-drop, length-append, drop-append-le}
use Rattle.std.proofs.lemmas.Bool.{cases_lt, false≢true}
use Rattle.std.proofs.lemmas.Bool.Decides.{nat_tests}
use Rattle.circular_buffer.specs.Buffer.{Buffer, buffer, keep_last}

module _ {X : Type 0} where
  -- where all places are taken, the oldest goes
  pub room_full : (xs : List X) (n : ℕ) → (length xs == n) ≡ true → drop 1 xs ≡ keep_last (n - 1) xs
  room_full [] n e = let none : 0 - (n - 1) ≡ 0 = omega arith in ap (λ k. drop k []) (sym none)
  room_full (y ∷ ys) n e =
      let whole : suc (length ys) ≡ n = grind (arith, nat_tests) in
      let one : suc (length ys) - (n - 1) ≡ 1 = omega (arith, whole) in
      ap (λ k. drop k (y ∷ ys)) (sym one)

  -- where one is free, none goes
  pub room_free : (xs : List X) (n : ℕ) → length xs ≤ n → (length xs == n) ≡ false → xs ≡ keep_last (n - 1) xs
  room_free xs n few e =
      let free : length xs < n = grind (arith, nat_tests) in
      let none : length xs - (n - 1) ≡ 0 = omega (arith, free) in
      ap (λ k. drop k xs) (sym none)

  last_in : (xs : List X) (x : X) (n : ℕ) → 0 < n → keep_last (n - 1) xs ++ x ∷ [] ≡ keep_last n (xs ++ x ∷ [])
  last_in xs x n some =
      let k : ℕ = length xs - (n - 1) in
      let same : length (xs ++ x ∷ []) - n ≡ k = omega (arith, length-append xs (x ∷ []), some) in
      let within : k ≤ length xs = omega arith in
      sym (drop-append-le k xs (x ∷ []) within) ∙ ap (λ j. drop j (xs ++ x ∷ [])) (sym same)

  nothing_in : (xs : List X) (x : X) (n : ℕ) → length xs ≤ n → n ≡ 0 → keep_last (n - 1) xs ≡ keep_last n (xs ++ x ∷ [])
  nothing_in [] x n few none =
      let before : 0 - (n - 1) ≡ 0 = omega arith in
      let after : 1 - n ≡ 1 = omega (arith, none) in
      ap (λ k. drop k []) before ∙ ap (λ k. drop k (x ∷ [])) (sym after)
  nothing_in (y ∷ ys) x n few none = absurd (omega (arith, few, none))

  short : (xs : List X) (n : ℕ) → 0 < n → length (keep_last (n - 1) xs) < n
  short xs n some = omega (arith, length-drop (length xs - (n - 1)) xs, some)

  -- one more stands last, if there is a place at all
  pub put_last : {T E : Type 0} (b c d : Buffer X) (x : X) (r : Result T E) (P : E → Type 0) → length b.items ≤ b.capacity → c ≡ buffer (keep_last (b.capacity - 1) b.items) b.capacity → (IsOk r ↔ (length c.items < c.capacity))
      → OnOk r (d ≡ buffer (c.items ++ x ∷ []) c.capacity) → IfErr r (λ y. P y × (d ≡ c)) → d ≡ buffer (keep_last b.capacity (b.items ++ x ∷ [])) b.capacity
  put_last b c d x (Ok t) P few is when ok err =
      let room : length c.items < c.capacity = when.0 refl in
      let some : 0 < b.capacity = omega (arith, room, ap (λ (z : Buffer X). z.capacity) is) in
      ok ∙ (ap (λ (z : Buffer X). buffer (z.items ++ x ∷ []) z.capacity) is ∙ ap (λ xs. buffer xs b.capacity) (last_in b.items x b.capacity some))
  put_last b c d x (Err e) P few is when ok err =
      ⊎_elim
      (λ some. absurd (false≢true (when.1 (subst (λ (z : Buffer X). length z.items < z.capacity) (sym is) (short b.items b.capacity some)))))
      (λ none. err.1 ∙ (is ∙ ap (λ xs. buffer xs b.capacity) (nothing_in b.items x b.capacity few (omega (arith, none)))))
      (cases_lt 0 b.capacity)

-- and is counted
pub counts_one : (n most forgotten : ℕ) → (n == most) ≡ true → forgotten + 1 ≡ forgotten + (n + 1 - most)
counts_one n most forgotten e = let whole : n ≡ most = grind (arith, nat_tests) in omega (arith, whole)

pub counts_none : (n most forgotten : ℕ) → n ≤ most → (n == most) ≡ false → forgotten ≡ forgotten + (n + 1 - most)
counts_none n most forgotten few e = let free : n < most = grind (arith, nat_tests) in omega (arith, free)
