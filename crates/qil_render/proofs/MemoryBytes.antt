-- Bytes of memory from an address on.
use Rattle.std.proofs.Common.{◌≡◌, ap, ◌∙◌, ℕ, zero, suc, ◌+◌, ◌-◌, ◌<◌, ◌≤◌, List, ◌++◌, codes, append_assoc, arith}
use Rattle.std.specs.List.{flat_map}
use Rattle.qil_memory.specs.Live.{Live}
use Rattle.qil_semantics.specs.State.{State}
use Rattle.qil_render.specs.Texts.{byte_text}
use Rattle.qil_render.specs.Shown.{bytes_from, spaced_byte, memory_shown}

-- the bytes after the first, and the end of the line
abbrev pub later_bytes : Live → ℕ → ℕ → List ℕ
later_bytes m a n = flat_map spaced_byte (bytes_from m a n) ++ codes "\n"

pub memory_first : (s : State) (a n : ℕ) → 0 < n → memory_shown s a n ≡ byte_text (s.memory a) ++ later_bytes s.memory (a + 1) (n - 1)
memory_first s a zero h = absurd (omega (arith, h))
memory_first s a (suc n) h =
    let count : n ≡ suc n - 1 = omega arith in
    append_assoc (byte_text (s.memory a)) (flat_map spaced_byte (bytes_from s.memory (a + 1) n)) (codes "\n") ∙ ap (λ k. byte_text (s.memory a) ++ later_bytes s.memory (a + 1) k) count

later_next : (m : Live) (a k : ℕ) → later_bytes m a (suc k) ≡ spaced_byte (m a) ++ later_bytes m (a + 1) k
later_next m a k = append_assoc (spaced_byte (m a)) (flat_map spaced_byte (bytes_from m (a + 1) k)) (codes "\n")

pub later_step : (m : Live) (a i n : ℕ) → i < n → later_bytes m (a + i) (n - i) ≡ spaced_byte (m (a + i)) ++ later_bytes m (a + (i + 1)) (n - (i + 1))
later_step m a i n h =
    let count : n - i ≡ suc (n - (i + 1)) = omega (arith, h) in
    let next : a + i + 1 ≡ a + (i + 1) = omega arith in
    ap (later_bytes m (a + i)) count ∙ (later_next m (a + i) (n - (i + 1)) ∙ ap (λ b. spaced_byte (m (a + i)) ++ later_bytes m b (n - (i + 1))) next)

pub later_end : (m : Live) (a n i : ℕ) → n ≤ i → later_bytes m (a + i) (n - i) ≡ codes "\n"
later_end m a n i h = let none : n - i ≡ 0 = omega (arith, h) in ap (later_bytes m (a + i)) none

pub positive : (n : ℕ) → (n ≡ 0 → ⊥) → 0 < n
positive n h = omega (arith, h)
