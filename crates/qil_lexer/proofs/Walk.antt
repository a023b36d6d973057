-- Steps over the text: lines, and what stands after a gap.
use Rattle.std.proofs.Common.{◌≡◌, ℕ, ◌+◌, ◌-◌, ◌<◌, ◌⊎◌, Bool, true, false, cond, eqb, List, [], ◌∷◌, ◌++◌, length, take, drop, get_or, count_by, refl, sym, ap, subst, ◌∙◌, arith, inl, inr}
use Rattle.std.proofs.lemmas.Bool.{cases_Bool, cases_lt, not-true}
use Rattle.std.proofs.lemmas.List.{take_more, drop_more, drop_all, drop-drop}
use Rattle.std.proofs.lemmas.List.Sums.{sum_by-append, sum_by-cons}
use Rattle.qil_lexer.specs.Shape.{Are, is_spacing, is_in_line, IsGap}
use Rattle.qil_lexer.specs.Cut.{IsLongestGap, IsGapBetween, line_of}
use Rattle.qil_lexer.specs.Prefix.{BeginsNoGap}
use Rattle.qil_lexer.proofs.Lines.{take_add, gap_in_line}

-- lines without newlines don't count
pub count_none : (bytes : List ℕ) → Are is_in_line bytes → count_by (λ b. eqb b 10) bytes ≡ 0
count_none [] are = refl
count_none (b ∷ bytes) are = let f : eqb b 10 ≡ false = not-true (eqb b 10) are.0 in
    let one : ◌≡◌ {A = ℕ} (cond (eqb b 10) 1 0) 0 = ap (λ (t : Bool). cond {A = ℕ} t 1 0) f in
    let sums : count_by (λ b. eqb b 10) (b ∷ bytes) ≡ cond (eqb b 10) 1 0 + count_by (λ b. eqb b 10) bytes = sum_by-cons (λ b. cond (eqb b 10) 1 0) b bytes in
    omega (arith, sums, one, count_none bytes are.1)

pub line_more : (text : List ℕ) (at n : ℕ) → line_of text (at + n) ≡ line_of text at + count_by (λ b. eqb b 10) (take n (drop at text))
line_more text at n =
    let parts : count_by (λ b. eqb b 10) (take (at + n) text) ≡ count_by (λ b. eqb b 10) (take at text ++ take n (drop at text)) = ap (count_by (λ b. eqb b 10)) (take_add at n text) in
    let sums : count_by (λ b. eqb b 10) (take at text ++ take n (drop at text)) ≡ count_by (λ b. eqb b 10) (take at text) + count_by (λ b. eqb b 10) (take n (drop at text)) = sum_by-append (λ b. cond (eqb b 10) 1 0) (take at text) (take n (drop at text)) in
    omega (arith, parts, sums)

pub line_gap : (text : List ℕ) (at n : ℕ) → IsLongestGap n (drop at text) → line_of text (at + n) ≡ line_of text at
line_gap text at n gap = omega (arith, line_more text at n, count_none (take n (drop at text)) (gap_in_line (take n (drop at text)) gap.shape))

-- a gap goes on over spacing and over '#'
are_push : (p : ℕ → Bool) (bytes : List ℕ) (b : ℕ) → Are p bytes → p b ≡ true → Are p (bytes ++ b ∷ [])
are_push p [] b are t = (t, tt)
are_push p (c ∷ bytes) b are t = (are.0, are_push p bytes b are.1 t)

gap_push : (gap : List ℕ) (b : ℕ) → IsGap gap → (is_spacing b ≡ true) ⊎ (b ≡ 35) → IsGap (gap ++ b ∷ [])
gap_push [] b g more = elim more [ inl s ↦ inl (s, tt) | inr e ↦ inr (e, tt) ]
gap_push (c ∷ gap) b g more = elim g [
  | inl s ↦ inl (s.0, gap_push gap b s.1 more)
  | inr comment ↦ inr (comment.0, are_push is_in_line gap b comment.1 (elim more [ inl s ↦ (gap_in_line (b ∷ []) (inl (s, tt))).0 | inr e ↦ rw e refl ]))
]

-- so none stands after the longest gap
pub none_behind : (bytes : List ℕ) (n : ℕ) → IsLongestGap n bytes → n < length bytes → (is_spacing (get_or bytes n 0) ≡ false) × (get_or bytes n 0 ≡ 35 → ⊥)
none_behind bytes n gap lt =
    let b = get_or bytes n 0 in
    let longer : ((is_spacing (get_or bytes n 0) ≡ true) ⊎ (get_or bytes n 0 ≡ 35)) → ⊥ = λ more. gap.longest (n + 1) (omega arith) (omega arith) (rw (take_more bytes n 0 lt) (gap_push (take n bytes) (get_or bytes n 0) gap.shape more)) in
    (elim (cases_Bool (is_spacing (get_or bytes n 0))) [ inl t ↦ absurd (longer (inl t)) | inr f ↦ f ], λ e. longer (inr e))

pub begins_no_gap : (bytes : List ℕ) (n : ℕ) → IsLongestGap n bytes → BeginsNoGap (drop n bytes)
begins_no_gap bytes n gap = elim (cases_lt n (length bytes)) [
  | inl lt ↦ subst BeginsNoGap (sym (drop_more bytes n 0 lt)) (none_behind bytes n gap lt)
  | inr le ↦ subst BeginsNoGap (sym (drop_all n bytes le)) tt
]

pub begins_no_gap_behind : (text : List ℕ) (from to : ℕ) → IsGapBetween text from to → BeginsNoGap (drop to text)
begins_no_gap_behind text from to gap =
    let there : from + (to - from) ≡ to = omega (arith, gap.ordered) in
    subst BeginsNoGap (drop-drop (to - from) from text ∙ ap (λ n. drop n text) there) (begins_no_gap (drop from text) (to - from) gap.longest)
