-- The longest rest of a token after its first byte, and from there the longest token.
use Rattle.std.proofs.Common.{◌≡◌, ℕ, zero, suc, ◌+◌, ◌*◌, ◌-◌, ◌<◌, ◌≤◌, Bool, true, List, [], ◌∷◌, length, take, drop, get_or, Some, refl, sym, subst, ◌∙◌, arith, inl, inr}
use Rattle.std.specs.List.{prefix_len}
use Rattle.std.specs.Char.{is_ascii_digit}
use Rattle.std.proofs.lemmas.Bool.{cases_Bool, cond-true, cond-false}
use Rattle.std.proofs.lemmas.List.{at_drop_more}
use Rattle.qil_lexer.specs.declared.token.TokenKind.{TokenKind}
use Rattle.qil_lexer.specs.declared.token.TokenKind.TheVariants.{Global, Temp, Label, Aggregate, Word, Number, Newline}
use Rattle.qil_lexer.specs.Shape.{begins, is_name_byte, is_word_byte, IsName, HasTail, HasShape, first_kind, decimal_after}
use Rattle.qil_lexer.specs.Cut.{IsLongest}
use Rattle.qil_lexer.specs.Prefix.{IsLongestTail}
use Rattle.qil_lexer.proofs.Runs.{run_fits, run_passes, run_bound}

pub run_begins : (p : ℕ → Bool) (bytes : List ℕ) → (prefix_len p bytes ≡ 0 → ⊥) → begins p (take (prefix_len p bytes) bytes) ≡ true
run_begins p [] some = absurd (some refl)
run_begins p (b ∷ bytes) some = elim (cases_Bool (p b)) [
  | inl t ↦ let e : 1 + prefix_len p bytes ≡ suc (prefix_len p bytes) = omega arith in rw (cond-true (p b) (1 + prefix_len p bytes) 0 t, e) t
  | inr f ↦ absurd (some (cond-false (p b) (1 + prefix_len p bytes) 0 f))
]

name_shape : (tail : List ℕ) → (prefix_len is_name_byte tail ≡ 0 → ⊥) → IsName (take (prefix_len is_name_byte tail) tail)
name_shape tail some = (run_begins is_name_byte tail some, run_passes is_name_byte tail)

name_longest : (tail : List ℕ) (m : ℕ) → prefix_len is_name_byte tail < m → m ≤ length tail → IsName (take m tail) → ⊥
name_longest tail m lt fits name = absurd (omega (arith, run_bound is_name_byte tail m fits name.1))

abbrev pub IsSigilKind : TokenKind → Type 0
IsSigilKind Global = Unit {0}
IsSigilKind Temp = Unit {0}
IsSigilKind Label = Unit {0}
IsSigilKind Aggregate = Unit {0}
IsSigilKind kind = ⊥

pub name_tail : (kind : TokenKind) (b : ℕ) (tail : List ℕ) → IsSigilKind kind → (prefix_len is_name_byte tail ≡ 0 → ⊥) → IsLongestTail kind b (prefix_len is_name_byte tail) tail
name_tail Global b tail sigil some = record { fits = run_fits is_name_byte tail; shape = name_shape tail some; longest = name_longest tail }
name_tail Temp b tail sigil some = record { fits = run_fits is_name_byte tail; shape = name_shape tail some; longest = name_longest tail }
name_tail Label b tail sigil some = record { fits = run_fits is_name_byte tail; shape = name_shape tail some; longest = name_longest tail }
name_tail Aggregate b tail sigil some = record { fits = run_fits is_name_byte tail; shape = name_shape tail some; longest = name_longest tail }
name_tail kind b tail sigil some = absurd sigil

pub word_tail : (b : ℕ) (tail : List ℕ) → IsLongestTail Word b (prefix_len is_word_byte tail) tail
word_tail b tail = record { fits = run_fits is_word_byte tail; shape = run_passes is_word_byte tail; longest = λ m lt fits word. absurd (omega (arith, run_bound is_word_byte tail m fits word)) }

pub number_tail : (b : ℕ) (tail : List ℕ) → (b ≡ 45 → prefix_len is_ascii_digit tail ≡ 0 → ⊥) → IsLongestTail Number b (prefix_len is_ascii_digit tail) tail
number_tail b tail some = record {
  fits = run_fits is_ascii_digit tail;
  shape = (λ e. run_begins is_ascii_digit tail (some e), run_passes is_ascii_digit tail);
  longest = λ m lt fits number. absurd (omega (arith, run_bound is_ascii_digit tail m fits number.1));
}

pub newline_tail : (b n : ℕ) (tail : List ℕ) → IsLongestTail Newline 10 n tail → IsLongestTail Newline b n tail
newline_tail b n tail found = record { fits = found.fits; shape = found.shape; longest = found.longest }

some_is : {A : Type 0} (a b : A) → Some a ≡ Some b → a ≡ b
some_is a b e = cc

-- a token is its first byte and the longest rest
pub longest_token : (kind : TokenKind) (b n : ℕ) (tail : List ℕ) → first_kind b ≡ Some kind → IsLongestTail kind b n tail → IsLongest kind (n + 1) (b ∷ tail)
longest_token kind b n tail known found = let s : n + 1 ≡ suc n = omega arith in rw s (record {
  fits = omega (arith, found.fits);
  shape = (known, found.shape);
  longest = bound;
})
  where
    bound : (other : TokenKind) (m : ℕ) → suc n < m → m ≤ suc (length tail) → HasShape other (take m (b ∷ tail)) → ⊥
    bound other zero lt fits shape = absurd (omega arith)
    bound other (suc m) lt fits shape = found.longest m (omega arith) (omega arith) (subst (λ k. HasTail k b (take m tail)) (some_is other kind (sym shape.0 ∙ known)) shape.1)

-- more digits make no smaller number
pub decimal_grows : (start : ℕ) (digits : List ℕ) → start ≤ decimal_after start digits
decimal_grows start [] = omega arith
decimal_grows start (d ∷ digits) = omega (arith, decimal_grows (start * 10 + (d - 48)) digits)

-- the value at one digit
pub decimal_step : (value i : ℕ) (digits : List ℕ) → i < length digits → decimal_after value (drop i digits) ≡ decimal_after (value * 10 + (get_or digits i 0 - 48)) (drop (i + 1) digits)
decimal_step value i digits lt = at_drop_more (decimal_after value) digits i 0 lt

pub decimal_at : (value i : ℕ) (digits : List ℕ) → i < length digits → value * 10 + (get_or digits i 0 - 48) ≤ decimal_after value (drop i digits)
decimal_at value i digits lt = omega (arith, decimal_step value i digits lt, decimal_grows (value * 10 + (get_or digits i 0 - 48)) (drop (i + 1) digits))
