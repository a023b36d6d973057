-- Canonical texts are cut into the tokens that they are written with.
use Rattle.std.proofs.Common.{◌≡◌, ℕ, zero, suc, ◌+◌, ◌-◌, ◌^◌, ◌<◌, ◌≤◌, Bool, true, false, eqb, ◌||◌, List, [], ◌∷◌, ◌++◌, length, take, drop, Some, None, refl, sym, ap, subst, ◌∙◌, ◌⊎◌, inl, inr, append_assoc, arith, rules}
use Rattle.std.specs.Fmt as fmt
use Rattle.std.specs.List.{prefix_len}
use Rattle.std.specs.Char.{is_ascii_digit, is_ascii_alphabetic}
use Rattle.std.proofs.Math.Seq.{take-append_seam, drop-append_seam}
use Rattle.std.proofs.lemmas.Bool.{cond-true, cond-false, eqb-true, cases_Bool}
use Rattle.std.proofs.lemmas.List.{length-append}
use Rattle.std.proofs.lemmas.Fmt.{digits_decimal, digits_value-decimal, decimal_nonempty}
use Rattle.std.proofs.lemmas.Str.Parse.{IsNumeralModel, numerals_by_fold}
use Rattle.qil_lexer.specs.declared.token.TokenKind.{TokenKind}
use Rattle.qil_lexer.specs.declared.token.TokenKind.TheVariants as kinds
use Rattle.qil_lexer.specs.declared.token.Token.{Token}
use Rattle.qil_lexer.specs.Shape.{Are, begins, is_spacing, is_name_byte, is_word_byte, decimal, decimal_after, number_value, first_kind, IsName, HasShape, IsInRange}
use Rattle.qil_lexer.specs.Cut.{IsLongest, IsLongestGap, CutsBetween, Cuts, line_of}
use Rattle.qil_lexer.specs.Prefix.{IsLongestTail}
use Rattle.qil_lexer.proofs.Tails.{name_tail, word_tail, number_tail, longest_token}
use Rattle.qil_lexer.proofs.Gaps.{gap_of, gap_of-spacing, gap_of-none, gap_of-nil, gap_longest}
use Rattle.qil_printer.specs.Canonical.{Written, written, text_of}

-- ---- numbers

pub own : IsNumeralModel (Are is_ascii_digit) decimal
own = numerals_by_fold (Are is_ascii_digit) (search rules) decimal_after (search rules)

-- a byte that passes a test is none that fails it
pub differs : (p : ℕ → Bool) (b k : ℕ) → p b ≡ true → p k ≡ false → eqb b k ≡ false
differs p b k h f = elim (cases_Bool (eqb b k)) [
  | inl t ↦ let bad : true ≡ false = sym h ∙ ap p (eqb-true b k t) ∙ f in absurd cc
  | inr e ↦ e
]

digit_no_letter : (b : ℕ) → is_ascii_digit b ≡ true → is_ascii_alphabetic b ≡ false
digit_no_letter b h = grind (arith, h)

digit_kind : (b : ℕ) → is_ascii_digit b ≡ true → first_kind b ≡ Some kinds.Number
unfolding first_kind
digit_kind b h = rw (differs is_ascii_digit b 36 h refl, differs is_ascii_digit b 37 h refl, differs is_ascii_digit b 64 h refl, differs is_ascii_digit b 58 h refl, differs is_ascii_digit b 34 h refl, differs is_ascii_digit b 44 h refl, differs is_ascii_digit b 61 h refl, differs is_ascii_digit b 123 h refl, differs is_ascii_digit b 125 h refl, differs is_ascii_digit b 40 h refl, differs is_ascii_digit b 41 h refl, differs is_ascii_digit b 43 h refl, differs is_ascii_digit b 46 h refl, differs is_ascii_digit b 10 h refl, digit_no_letter b h, h) refl

pub digits_are : (ds : List ℕ) (n : ℕ) → Are is_ascii_digit ds → 0 < length ds → decimal ds ≡ n → n < 2 ^ 64 → HasShape kinds.Number ds × IsInRange ds × (number_value ds ≡ n)
digits_are [] n are some e lt = absurd (omega arith)
digits_are (b ∷ tail) n are some e lt =
    let no_sign : eqb b 45 ≡ false = differs is_ascii_digit b 45 are.0 refl in (
      (digit_kind b are.0, (λ s. let bad : true ≡ false = sym are.0 ∙ ap is_ascii_digit s in absurd cc, are.1)),
      rw no_sign (subst (λ (k : ℕ). k < 2 ^ 64) (sym e) lt),
      rw no_sign e,
    )

pub number_is : (n : ℕ) → n < 2 ^ 64 → HasShape kinds.Number (fmt.decimal n) × IsInRange (fmt.decimal n) × (number_value (fmt.decimal n) ≡ n)
number_is n lt = digits_are (fmt.decimal n) n (digits_decimal own n lt) (decimal_nonempty n lt) (digits_value-decimal own n lt) lt

-- ---- the longest token

run_length : (p : ℕ → Bool) (body rest : List ℕ) → Are p body → begins p rest ≡ false → prefix_len p (body ++ rest) ≡ length body
run_length p [] [] are h = refl
run_length p [] (c ∷ rest) are h = cond-false (p c) (1 + prefix_len p rest) 0 h
run_length p (b ∷ body) rest are h = cond-true (p b) (1 + prefix_len p (body ++ rest)) 0 are.0 ∙ omega (arith, run_length p body rest are.1 h)

-- the bytes after a token of that kind don't go on with it
abbrev pub Stops : TokenKind → List ℕ → Type 0
Stops kinds.Global rest = begins is_name_byte rest ≡ false
Stops kinds.Temp rest = begins is_name_byte rest ≡ false
Stops kinds.Label rest = begins is_name_byte rest ≡ false
Stops kinds.Word rest = begins is_word_byte rest ≡ false
Stops kinds.Number rest = begins is_ascii_digit rest ≡ false
Stops kinds.Comma rest = Unit {0}
Stops kinds.Equals rest = Unit {0}
Stops kinds.OpenParen rest = Unit {0}
Stops kinds.CloseParen rest = Unit {0}
Stops _ rest = ⊥

run_token : (kind : TokenKind) (p : ℕ → Bool) (b : ℕ) (tail rest : List ℕ) → first_kind b ≡ Some kind → Are p tail → begins p rest ≡ false → IsLongestTail kind b (prefix_len p (tail ++ rest)) (tail ++ rest) → IsLongest kind (length (b ∷ tail)) ((b ∷ tail) ++ rest)
run_token kind p b tail rest known are stops found =
    let n : prefix_len p (tail ++ rest) + 1 ≡ length (b ∷ tail) = omega (arith, run_length p tail rest are stops) in
    subst (λ (k : ℕ). IsLongest kind k (b ∷ (tail ++ rest))) n (longest_token kind b (prefix_len p (tail ++ rest)) (tail ++ rest) known found)

name_some : (tail rest : List ℕ) → IsName tail → begins is_name_byte rest ≡ false → prefix_len is_name_byte (tail ++ rest) ≡ 0 → ⊥
name_some [] rest name stops z = absurd cc
name_some (c ∷ tail) rest name stops z = absurd (omega (arith, run_length is_name_byte (c ∷ tail) rest name.1 stops, z))

signed_some : (b : ℕ) (tail rest : List ℕ) → (b ≡ 45 → begins is_ascii_digit tail ≡ true) → Are is_ascii_digit tail → begins is_ascii_digit rest ≡ false → b ≡ 45 → prefix_len is_ascii_digit (tail ++ rest) ≡ 0 → ⊥
signed_some b [] rest some are stops e z = let bad : false ≡ true = some e in absurd cc
signed_some b (c ∷ tail) rest some are stops e z = absurd (omega (arith, run_length is_ascii_digit (c ∷ tail) rest are stops, z))

none_longer : (tail : List ℕ) (m : ℕ) → 0 < m → m ≤ length tail → take m tail ≡ [] → ⊥
none_longer [] m lt le e = absurd (omega arith)
none_longer (c ∷ tail) zero lt le e = absurd (omega arith)
none_longer (c ∷ tail) (suc m) lt le e = absurd cc

-- a token of one byte
lone_token : (kind : TokenKind) (b : ℕ) (tail rest : List ℕ) → first_kind b ≡ Some kind → tail ≡ [] → IsLongestTail kind b 0 rest → IsLongest kind (length (b ∷ tail)) ((b ∷ tail) ++ rest)
lone_token kind b tail rest known e found =
    let one : 0 + 1 ≡ length (b ∷ tail) = omega (arith, ap length e) in
    let same : b ∷ rest ≡ (b ∷ tail) ++ rest = ap (λ (l : List ℕ). b ∷ (l ++ rest)) (sym e) in
    subst (λ (l : List ℕ). IsLongest kind (length (b ∷ tail)) l) same (subst (λ (k : ℕ). IsLongest kind k (b ∷ rest)) one (longest_token kind b 0 rest known found))

-- a token is the longest where what follows doesn't go on with it
longest : (kind : TokenKind) (bytes rest : List ℕ) → HasShape kind bytes → Stops kind rest → IsLongest kind (length bytes) (bytes ++ rest)
longest kind [] rest shape stops = absurd shape
longest kinds.Global (b ∷ tail) rest shape stops = run_token kinds.Global is_name_byte b tail rest shape.0 shape.1.1 stops (name_tail kinds.Global b (tail ++ rest) tt (name_some tail rest shape.1 stops))
longest kinds.Temp (b ∷ tail) rest shape stops = run_token kinds.Temp is_name_byte b tail rest shape.0 shape.1.1 stops (name_tail kinds.Temp b (tail ++ rest) tt (name_some tail rest shape.1 stops))
longest kinds.Label (b ∷ tail) rest shape stops = run_token kinds.Label is_name_byte b tail rest shape.0 shape.1.1 stops (name_tail kinds.Label b (tail ++ rest) tt (name_some tail rest shape.1 stops))
longest kinds.Word (b ∷ tail) rest shape stops = run_token kinds.Word is_word_byte b tail rest shape.0 shape.1 stops (word_tail b (tail ++ rest))
longest kinds.Number (b ∷ tail) rest shape stops = run_token kinds.Number is_ascii_digit b tail rest shape.0 shape.1.1 stops (number_tail b (tail ++ rest) (signed_some b tail rest shape.1.0 shape.1.1 stops))
longest kinds.Comma (b ∷ tail) rest shape stops = lone_token kinds.Comma b tail rest shape.0 shape.1 (record { fits = omega arith; shape = refl; longest = none_longer rest })
longest kinds.Equals (b ∷ tail) rest shape stops = lone_token kinds.Equals b tail rest shape.0 shape.1 (record { fits = omega arith; shape = refl; longest = none_longer rest })
longest kinds.OpenParen (b ∷ tail) rest shape stops = lone_token kinds.OpenParen b tail rest shape.0 shape.1 (record { fits = omega arith; shape = refl; longest = none_longer rest })
longest kinds.CloseParen (b ∷ tail) rest shape stops = lone_token kinds.CloseParen b tail rest shape.0 shape.1 (record { fits = omega arith; shape = refl; longest = none_longer rest })
longest _ (b ∷ tail) rest shape stops = absurd stops

-- ---- gaps

-- a word as it may be written
pub record IsWord (w : Written) : Type 0 where
  pub shape : HasShape w.kind w.bytes
  pub in_range : w.kind ≡ kinds.Number → IsInRange w.bytes
  pub gap : (w.gap ≡ []) ⊎ (w.gap ≡ 32 ∷ [])

no_gap : (kind : TokenKind) (b : ℕ) → first_kind b ≡ Some kind → (is_spacing b ≡ false) × (b ≡ 35 → ⊥)
unfolding first_kind
no_gap kind b known = (
  elim (cases_Bool (is_spacing b)) [
    | inl t ↦ absurd (spacing (eqb b 32) (eqb b 9) (eqb b 13) t (λ e. not_none kind (sym (ap first_kind (eqb-true b 32 e)) ∙ known)) (λ e. not_none kind (sym (ap first_kind (eqb-true b 9 e)) ∙ known)) (λ e. not_none kind (sym (ap first_kind (eqb-true b 13 e)) ∙ known)))
    | inr f ↦ f
  ],
  λ e. not_none kind (sym (ap first_kind e) ∙ known),
)
  where
    not_none : (k : TokenKind) → None ≡ Some k → ⊥
    not_none k e = absurd cc

    spacing : (x y z : Bool) → (x || y) || z ≡ true → (x ≡ true → ⊥) → (y ≡ true → ⊥) → (z ≡ true → ⊥) → ⊥
    spacing true y z t f g h = f refl
    spacing false true z t f g h = g refl
    spacing false false true t f g h = h refl
    spacing false false false t f g h = absurd cc

no_gap_of : (kind : TokenKind) (bytes rest : List ℕ) → HasShape kind bytes → gap_of (bytes ++ rest) ≡ 0
no_gap_of kind [] rest shape = absurd shape
no_gap_of kind (b ∷ tail) rest shape = let k = no_gap kind b shape.0 in gap_of-none b (tail ++ rest) k.0 k.1

gap_is : (w : Written) → IsWord w → (rest : List ℕ) → gap_of (w.gap ++ (w.bytes ++ rest)) ≡ length w.gap
gap_is w word rest = elim word.gap [
  | inl none ↦ rw none (no_gap_of w.kind w.bytes rest word.shape)
  | inr space ↦ rw space (gap_of-spacing 32 (w.bytes ++ rest) refl ∙ ap (λ (n : ℕ). suc n) (no_gap_of w.kind w.bytes rest word.shape))
]

-- ---- the cut

-- words, none of which goes on with the one before
abbrev pub Fine : List Written → Type 0
Fine [] = Unit {0}
Fine (w ∷ ws) = IsWord w × Stops w.kind (text_of ws) × Fine ws

abbrev pub token_at : List ℕ → ℕ → Written → Token
token_at text start w = record { kind = w.kind; text = record { ref_ptr = (0, 0); now = w.bytes }; start = start; line = line_of text start }

abbrev pub tokens_at : List ℕ → ℕ → List Written → List Token
tokens_at text from [] = []
tokens_at text from (w ∷ ws) = token_at text (from + length w.gap) w ∷ tokens_at text ((from + length w.gap) + length w.bytes) ws

parts_of : (w : Written) (prefix rest : List ℕ) → prefix ++ (written w ++ rest) ≡ (prefix ++ w.gap) ++ (w.bytes ++ rest)
parts_of w prefix rest = ap (λ (l : List ℕ). prefix ++ l) (append_assoc w.gap w.bytes rest) ∙ sym (append_assoc prefix w.gap (w.bytes ++ rest))

behind : (text prefix rest : List ℕ) (from : ℕ) → text ≡ prefix ++ rest → from ≡ length prefix → drop from text ≡ rest
behind text prefix rest from e l = rw (e, l) (drop-append_seam prefix rest)

pub cuts_from : (ws : List Written) (text prefix : List ℕ) (from : ℕ) → text ≡ prefix ++ text_of ws → from ≡ length prefix → Fine ws → CutsBetween text from (tokens_at text from ws) (length text)
cuts_from [] text prefix from e l fine = record {
  ordered = omega (arith, ap length e, length-append prefix []);
  longest = subst (λ (n : ℕ). IsLongestGap n (drop from text)) (none_left text prefix from e l) (gap_longest (drop from text));
}
  where
    none_left : (text prefix : List ℕ) (from : ℕ) → text ≡ prefix ++ [] → from ≡ length prefix → gap_of (drop from text) ≡ length text - from
    none_left text prefix from e l = ap gap_of (behind text prefix [] from e l) ∙ gap_of-nil ∙ omega (arith, ap length e, length-append prefix [])
cuts_from (w ∷ ws) text prefix from e l fine =
    let rest : List ℕ = text_of ws in
    let start : ℕ = from + length w.gap in
    let split : text ≡ (prefix ++ w.gap) ++ (w.bytes ++ rest) = e ∙ parts_of w prefix rest in
    let at_start : start ≡ length (prefix ++ w.gap) = omega (arith, length-append prefix w.gap) in
    let there : drop start text ≡ w.bytes ++ rest = behind text (prefix ++ w.gap) (w.bytes ++ rest) start split at_start in
    let gap_there : drop from text ≡ w.gap ++ (w.bytes ++ rest) = behind text prefix (w.gap ++ (w.bytes ++ rest)) from (split ∙ append_assoc prefix w.gap (w.bytes ++ rest)) l in
    let gap_len : gap_of (drop from text) ≡ start - from = ap gap_of gap_there ∙ gap_is w fine.0 rest ∙ omega arith in (
      record { ordered = omega arith; longest = subst (λ (n : ℕ). IsLongestGap n (drop from text)) gap_len (gap_longest (drop from text)) },
      record {
        longest = subst (λ (b : List ℕ). IsLongest w.kind (length w.bytes) b) (sym there) (longest w.kind w.bytes rest fine.0.shape fine.1);
        slice = sym (ap (take (length w.bytes)) there ∙ take-append_seam w.bytes rest);
        line = refl;
        in_range = fine.0.in_range;
      },
      cuts_from ws text ((prefix ++ w.gap) ++ w.bytes) (start + length w.bytes) (split ∙ sym (append_assoc (prefix ++ w.gap) w.bytes rest)) (omega (arith, at_start, length-append (prefix ++ w.gap) w.bytes)) fine.2,
    )

pub cuts : (ws : List Written) → Fine ws → Cuts (text_of ws) (tokens_at (text_of ws) 0 ws)
cuts ws fine = cuts_from ws (text_of ws) [] 0 refl refl fine
