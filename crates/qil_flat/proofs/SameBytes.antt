-- A memory and its copy have the same live bytes.
use Rattle.std.proofs.Common.{◌≡◌, ℕ, ◌+◌, ◌-◌, ◌<◌, ◌≤◌, List, [], ◌++◌, length, take, drop, slice_get, zero, suc, ◌∷◌, refl, sym, ap, ◌∙◌, arith, ⊎_elim}
use Rattle.std.proofs.lemmas.Bool.{cases_lt, lt-ltb, le-ltb}
use Rattle.std.proofs.lemmas.List.{take_all, take-append-le, drop_all, append-nil, length-take-le}
use Rattle.qil_layout.specs.Layout.{data_base}
use Rattle.qil_memory.specs.Bytes.{over}
use Rattle.qil_memory.specs.Buffers.{Buffers, IsMemory, stack_base}
use Rattle.qil_memory.specs.Live.{live}
use Rattle.qil_memory.specs.Undo.{with_bytes, with_top}
use Rattle.qil_memory.specs.Places.{bytes_at}
use Rattle.qil_memory.proofs.Maps.{same_maps}
use Rattle.qil_flat.specs.Shortened.{shortened}

abbrev pub buffers : List ℕ → List ℕ → ℕ → Buffers
buffers bytes stack top = record { data_bytes = bytes; stack_bytes = stack; top = top }

slice_get-take : (xs : List ℕ) (n k : ℕ) → k < n → slice_get (take n xs) k ≡ slice_get xs k
slice_get-take xs zero k h = absurd (omega arith)
slice_get-take [] (suc n) k h = refl
slice_get-take (x ∷ xs) (suc n) zero h = refl
slice_get-take (x ∷ xs) (suc n) (suc k) h = slice_get-take xs n k (omega arith)

-- of the stack only the bytes below the top are live
live_at_stack : (bytes xs ys : List ℕ) (t b : ℕ) → take (t - stack_base) xs ≡ take (t - stack_base) ys → live (buffers bytes xs t) b ≡ live (buffers bytes ys t) b
unfolding live
live_at_stack bytes xs ys t b e = ⊎_elim
    (λ (u : b < stack_base). rw (lt-ltb b stack_base u) refl)
    (λ (u : stack_base ≤ b). ⊎_elim
    (λ (v : b < t). rw (le-ltb b stack_base u, lt-ltb b t v)
    (sym (slice_get-take xs (t - stack_base) (b - stack_base) (omega arith)) ∙ ap (λ (zs : List ℕ). slice_get zs (b - stack_base)) e ∙ slice_get-take ys (t - stack_base) (b - stack_base) (omega arith)))
    (λ (v : t ≤ b). rw (le-ltb b stack_base u, le-ltb b t v) refl)
    (cases_lt b t))
    (cases_lt b stack_base)

live_stack : (bytes xs ys : List ℕ) (t : ℕ) → take (t - stack_base) xs ≡ take (t - stack_base) ys → live (buffers bytes xs t) ≡ live (buffers bytes ys t)
live_stack bytes xs ys t e = same_maps _ _ (λ b. live_at_stack bytes xs ys t b e)

-- ---- a copy is made

module _ (m : Buffers) (n k : ℕ) (bytes stack : List ℕ) (i : IsMemory m) (en : n ≡ length m.data_bytes) (ek : k ≡ m.top - stack_base) (ed : bytes ≡ bytes_at m data_base n) (es : stack ≡ bytes_at m stack_base k) where
  pub data_is : bytes ≡ m.data_bytes
  data_is = ed ∙ take_all (0 + n - 0) m.data_bytes (omega (arith, en))

  stack_is : stack ≡ take k m.stack_bytes
  stack_is = es ∙ (let same : 0 + k - 0 ≡ k = omega arith in ap (λ j. take j m.stack_bytes) same)

  stack_count : length stack ≡ k
  stack_count = ap length stack_is ∙ length-take-le k m.stack_bytes (omega (arith, ek, i.whole, i.high))

  pub top_is : stack_base + length stack ≡ m.top
  top_is = omega (arith, stack_count, ek, i.low)

  pub live_is : live (shortened bytes stack) ≡ live m
  live_is =
      (λ j. live (buffers (data_is j) stack (top_is j)))
      ∙ live_stack m.data_bytes stack m.stack_bytes m.top
      (ap (take (m.top - stack_base)) stack_is ∙ take_all (m.top - stack_base) (take k m.stack_bytes) (omega (arith, ek, ap length stack_is, stack_count)) ∙ ap (λ j. take j m.stack_bytes) ek)

-- ---- a memory goes back to it

-- as many bytes over others
over_all : (xs bs : List ℕ) → length xs ≡ length bs → over xs 0 bs ≡ bs
over_all xs bs e = ap (λ (ys : List ℕ). bs ++ ys) (drop_all (0 + length bs) xs (omega (arith, e))) ∙ append-nil bs

module _ (m a b w : Buffers) (bytes stack : List ℕ) (t : ℕ) (e : length m.data_bytes ≡ length bytes) (et : t ≡ stack_base + length stack) (ea : a ≡ with_top m t) (eb : b ≡ with_bytes a data_base bytes) (ew : w ≡ with_bytes b stack_base stack) where
  restored : w ≡ buffers bytes (over m.stack_bytes 0 stack) (stack_base + length stack)
  restored =
      ew ∙ (λ j. with_bytes (eb j) stack_base stack) ∙ (λ j. with_bytes (with_bytes (ea j) data_base bytes) stack_base stack)
      ∙ (λ j. buffers (over_all m.data_bytes bytes e j) (over m.stack_bytes 0 stack) (et j))

  pub restored_live : live w ≡ live (shortened bytes stack)
  restored_live =
      let depth : stack_base + length stack - stack_base ≡ length stack = omega arith in
      ap live restored ∙ live_stack bytes (over m.stack_bytes 0 stack) stack (stack_base + length stack)
      (ap (λ n. take n (over m.stack_bytes 0 stack)) depth ∙ take-append-le (length stack) stack (drop (0 + length stack) m.stack_bytes) (omega arith) ∙ ap (λ n. take n stack) (sym depth))
