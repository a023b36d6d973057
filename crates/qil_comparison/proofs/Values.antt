-- Values and bytes, one after the other.
use Rattle.std.proofs.Common.{◌≡◌, ◌↔◌, IsTrue, Bool, false, refl, sym, ap, ◌∙◌, ℕ, zero, suc, ◌+◌, ◌-◌, ◌<◌, ◌≤◌, List, [], ◌∷◌, ◌++◌, length, drop, codes, Option, Some, None, append_assoc, arith}
use Rattle.std.specs.Prelude.{slice_get}
use Rattle.std.proofs.lemmas.Bool.{true≢false}
use Rattle.qil_tree.specs.declared.tree.Program.{Program}
use Rattle.qil_semantics.specs.Timeline.{Timeline}
use Rattle.qil_compare.specs.declared.comparing.Verdict.{Verdict}
use Rattle.qil_compare.specs.declared.comparing.Verdict.TheVariants as verdicts
use Rattle.qil_compare.specs.declared.comparing.Answer.{Answer}
use Rattle.std.specs.List.{flat_map}
use Rattle.qil_memory.specs.Live.{Live}
use Rattle.qil_streams.specs.Text.{line}
use Rattle.qil_render.specs.Texts.{byte_text}
use Rattle.qil_render.specs.Shown.{spaced_byte, bytes_text}
use Rattle.qil_compare.specs.Seen.{Value}
use Rattle.qil_compare.specs.Events.{bytes_from}
use Rattle.qil_comparison.specs.Told.{value_text, further_value, values_text, verdict_line, sides_text, answer_text}

-- ---- values

pub no_values : (vs : List Value) (n : ℕ) → n ≡ length vs → n ≡ 0 → [] ≡ values_text vs
no_values [] n e none = refl
no_values (v ∷ vs) n e none = absurd (omega (arith, e, none))

-- what is left to put behind the first k values, one at least
pub values_first : (vs : List Value) (v : Value) → Some v ≡ slice_get vs 0 → values_text vs ≡ value_text v ++ flat_map further_value (drop 1 vs)
values_first [] v e = absurd cc
values_first (w ∷ vs) v e = let same : w ≡ v = cc in ap (λ u. value_text u ++ flat_map further_value vs) same

pub values_step : (vs : List Value) (k : ℕ) (v : Value) → Some v ≡ slice_get vs k → flat_map further_value (drop k vs) ≡ further_value v ++ flat_map further_value (drop (k + 1) vs)
values_step [] k v e = absurd cc
values_step (w ∷ vs) zero v e = let same : w ≡ v = cc in ap (λ u. further_value u ++ flat_map further_value vs) same
values_step (w ∷ vs) (suc k) v e = let next : suc k + 1 ≡ suc (k + 1) = omega arith in values_step vs k v e ∙ ap (λ n. further_value v ++ flat_map further_value (drop n (w ∷ vs))) (sym next)

pub values_end : (vs : List Value) (n k : ℕ) → n ≡ length vs → n ≤ k → flat_map further_value (drop k vs) ≡ []
values_end [] n zero e le = refl
values_end [] n (suc k) e le = refl
values_end (v ∷ vs) n zero e le = absurd (omega (arith, e, le))
values_end (v ∷ vs) n (suc k) e le = values_end vs (length vs) k refl (omega (arith, e, le))

-- ---- bytes

pub no_bytes : (m : Live) (a n : ℕ) → n ≡ 0 → codes "\n" ≡ line (bytes_text (bytes_from m a n))
unfolding bytes_from
no_bytes m a zero e = refl
no_bytes m a (suc n) e = absurd (omega (arith, e))

-- the bytes after the first, and the end of the line
abbrev pub later_bytes : Live → ℕ → ℕ → List ℕ
later_bytes m a n = flat_map spaced_byte (bytes_from m a n) ++ codes "\n"

pub bytes_first : (m : Live) (a n : ℕ) → 0 < n → line (bytes_text (bytes_from m a n)) ≡ byte_text (m a) ++ later_bytes m (a + 1) (n - 1)
unfolding bytes_from
bytes_first m a zero h = absurd (omega (arith, h))
bytes_first m a (suc n) h =
    let count : n ≡ suc n - 1 = omega arith in
    append_assoc (byte_text (m a)) (flat_map spaced_byte (bytes_from m (a + 1) n)) (codes "\n") ∙ ap (λ k. byte_text (m a) ++ later_bytes m (a + 1) k) count

later_next : (m : Live) (a k : ℕ) → later_bytes m a (suc k) ≡ spaced_byte (m a) ++ later_bytes m (a + 1) k
unfolding bytes_from
later_next m a k = append_assoc (spaced_byte (m a)) (flat_map spaced_byte (bytes_from m (a + 1) k)) (codes "\n")

pub later_step : (m : Live) (a i n : ℕ) → i < n → later_bytes m (a + i) (n - i) ≡ spaced_byte (m (a + i)) ++ later_bytes m (a + (i + 1)) (n - (i + 1))
later_step m a i n h =
    let count : n - i ≡ suc (n - (i + 1)) = omega (arith, h) in
    let next : a + i + 1 ≡ a + (i + 1) = omega arith in
    ap (later_bytes m (a + i)) count ∙ (later_next m (a + i) (n - (i + 1)) ∙ ap (λ b. spaced_byte (m (a + i)) ++ later_bytes m b (n - (i + 1))) next)

pub later_end : (m : Live) (a n i : ℕ) → n ≤ i → later_bytes m (a + i) (n - i) ≡ codes "\n"
unfolding bytes_from
later_end m a n i h = let none : n - i ≡ 0 = omega (arith, h) in ap (later_bytes m (a + i)) none

pub positive : (n : ℕ) → (n ≡ 0 → ⊥) → 0 < n
positive n h = omega (arith, h)

-- ---- an answer

pub told_same : {A : Type 0} (p q : Program A) (t u : Timeline) (v : Verdict) (answer : Answer) → v ≡ verdicts.Same → verdict_line answer.verdict answer.events ≡ answer_text p q t u v answer
told_same p q t u verdicts.Same answer same = refl
told_same p q t u verdicts.Part answer same = absurd cc
told_same p q t u verdicts.Limit answer same = absurd cc

pub told_other : {A : Type 0} (p q : Program A) (t u : Timeline) (v : Verdict) (answer : Answer) (r : Bool) → (IsTrue r ↔ (v ≡ verdicts.Same)) → r ≡ false → verdict_line answer.verdict answer.events ++ sides_text p q t u answer ≡ answer_text p q t u v answer
told_other p q t u verdicts.Same answer r test off = absurd (true≢false (sym (test.1 refl) ∙ off))
told_other p q t u verdicts.Part answer r test off = refl
told_other p q t u verdicts.Limit answer r test off = refl
