-- A string's items hold no newline, so its backslashes depend on the line of its opening quote.
use Rattle.std.proofs.Common.{◌≡◌, ℕ, zero, suc, ◌+◌, ◌≤◌, Bool, true, false, not, eqb, List, [], ◌∷◌, ◌++◌, length, take, drop, count_by, Some, refl, sym, ap, subst, ◌∙◌, arith, inl, inr}
use Rattle.std.specs.List.{prefix_len}
use Rattle.std.proofs.lemmas.Bool.{cases_Bool, eqb-true}
use Rattle.std.proofs.lemmas.List.{drop-drop, take-take}
use Rattle.qil_lexer.specs.declared.error.LexCode.TheVariants.{L5}
use Rattle.qil_lexer.specs.Shape.{Are, begins, is_in_line, is_octal, is_escape_letter, escape_len, item_len, Items}
use Rattle.qil_lexer.specs.Cut.{Fails, FailsAt, IsBackslash, line_of}
use Rattle.qil_lexer.proofs.Runs.{run_fits, run_passes}
use Rattle.qil_lexer.proofs.Lines.{take_add}
use Rattle.qil_lexer.proofs.Walk.{count_none, line_more}
use Rattle.qil_lexer.proofs.Items.{octals_len, escape_ways, item_ways}

-- a test that newline fails
in_line : (p : ℕ → Bool) (b : ℕ) → p 10 ≡ false → p b ≡ true → is_in_line b ≡ true
in_line p b fails passes = elim (cases_Bool (eqb b 10)) [
  | inl t ↦ let e : p 10 ≡ true = ap p (sym (eqb-true b 10 t)) ∙ passes in absurd cc
  | inr f ↦ ap not f
]

run_in_line : (p : ℕ → Bool) (bytes : List ℕ) → p 10 ≡ false → Are p bytes → Are is_in_line bytes
run_in_line p [] fails are = tt
run_in_line p (b ∷ bytes) fails are = (in_line p b fails are.0, run_in_line p bytes fails are.1)

both_in_line : (xs ys : List ℕ) → Are is_in_line xs → Are is_in_line ys → Are is_in_line (xs ++ ys)
both_in_line [] ys p q = q
both_in_line (x ∷ xs) ys p q = (p.0, both_in_line xs ys p.1 q)

letter_in_line : (bytes : List ℕ) → begins is_escape_letter bytes ≡ true → Are is_in_line (take 1 bytes)
letter_in_line [] t = absurd cc
letter_in_line (b ∷ bytes) t = (in_line is_escape_letter b refl t, tt)

take_len : (n : ℕ) (bytes : List ℕ) → length (take n bytes) ≤ n
take_len zero bytes = omega arith
take_len (suc n) [] = omega arith
take_len (suc n) (b ∷ bytes) = omega (arith, take_len n bytes)

run_len : (p : ℕ → Bool) (bytes : List ℕ) (n : ℕ) → prefix_len p (take n bytes) ≤ n
run_len p bytes n = omega (arith, run_fits p (take n bytes), take_len n bytes)

escape_in_line : (bytes : List ℕ) (n : ℕ) → escape_len bytes ≡ Some n → Are is_in_line (take n bytes)
escape_in_line bytes n e = elim (escape_ways bytes n e) [
  | inl letter ↦ rw (letter.1) (letter_in_line bytes letter.0)
  | inr digits ↦
      let len : n ≡ prefix_len is_octal (take 3 bytes) = digits.1 ∙ octals_len bytes in
      let run = run_in_line is_octal (take (prefix_len is_octal (take 3 bytes)) (take 3 bytes)) refl (run_passes is_octal (take 3 bytes)) in
      subst (λ k. Are is_in_line (take k bytes)) (sym len) (subst (Are is_in_line) (take-take (prefix_len is_octal (take 3 bytes)) 3 bytes (run_len is_octal bytes 3)) run)
]

plain_in_line : (b : ℕ) (bytes : List ℕ) (n : ℕ) → item_len (b ∷ bytes) ≡ Some n → is_in_line b ≡ true
unfolding item_len
plain_in_line b bytes n e = elim (cases_Bool (eqb b 10)) [
  | inl t ↦ let none : item_len (10 ∷ bytes) ≡ Some n = ap (λ c. item_len (c ∷ bytes)) (sym (eqb-true b 10 t)) ∙ e in absurd cc
  | inr f ↦ ap not f
]

item_in_line : (bytes : List ℕ) (n : ℕ) → item_len bytes ≡ Some n → Are is_in_line (take n bytes)
item_in_line [] zero e = tt
item_in_line [] (suc n) e = tt
item_in_line (b ∷ bytes) n e = elim (item_ways b bytes n e) [
  | inl escape ↦ rw (escape.3) (plain_in_line b bytes n e, escape_in_line bytes escape.1 escape.2)
  | inr plain ↦ rw (plain.1) (plain_in_line b bytes n e, tt)
]

items_in_line : (n : ℕ) (bytes rest : List ℕ) → Items n bytes rest → (k : ℕ) × (rest ≡ drop k bytes) × Are is_in_line (take k bytes)
items_in_line zero bytes rest items = (0, sym items, tt)
items_in_line (suc n) bytes rest items =
    let len = items.0 in
    let more = items_in_line n (drop len bytes) rest items.2 in (
      len + more.0,
      more.1 ∙ drop-drop more.0 len bytes,
      rw (take_add len more.0 bytes) (both_in_line (take len bytes) (take more.0 (drop len bytes)) (item_in_line bytes len items.1) more.2),
    )

backslash_at : (text : List ℕ) (at : ℕ) (prefix : List ℕ) → drop at text ≡ prefix → Fails L5 prefix → (place : ℕ) × IsBackslash text at place × (line_of text at ≡ line_of text place)
backslash_at text at [] e fails = absurd fails
backslash_at text at (b ∷ bytes) e fails =
    let n = fails.1 in
    let rest = fails.2 in
    let found = items_in_line n bytes rest fails.3 in
    let k = found.0 in
    let inside : drop (at + 1) text ≡ bytes = sym (drop-drop 1 at text) ∙ ap (drop 1) e in
    let place : drop (at + 1 + k) text ≡ rest = sym (drop-drop k (at + 1) text) ∙ ap (drop k) inside ∙ sym found.1 in
    let quote : is_in_line b ≡ true = rw (fails.0) refl in
    let none = count_none (b ∷ take k bytes) (quote, found.2) in
    let same : take (suc k) (drop at text) ≡ b ∷ take k bytes = ap (take (suc k)) e in
    let line : line_of text (at + suc k) ≡ line_of text at = omega (arith, line_more text at (suc k), ap (count_by (λ c. eqb c 10)) same, none) in
    let sum : at + suc k ≡ at + 1 + k = omega arith in (
      at + 1 + k,
      record { behind = omega arith; items = (n, rw (inside, place) (fails.3)); bad = rw place (fails.4) },
      sym line ∙ ap (line_of text) sum,
    )

pub backslash_line : (text : List ℕ) (line : ℕ) (fault : FailsAt text L5 line) → (place : ℕ) × IsBackslash text fault.at place × (line ≡ line_of text place)
backslash_line text line fault =
    let found = backslash_at text fault.at (drop fault.at text) refl fault.fails in
    (found.0, found.1, fault.line_is ∙ found.2)
