-- What a number's bytes and a string's items represent.
use Rattle.std.proofs.Common.{◌≡◌, ◌≤◌, ℕ, zero, suc, ◌+◌, Bool, length, drop, ◌++◌, append_assoc, subst, ap, true, false, cond, eqb, ◌||◌, List, [], ◌∷◌, get_or, Option, Some, None, refl, sym, ◌∙◌, arith}
use Rattle.std.proofs.lemmas.Bool.{eqb-true}
use Rattle.std.specs.Char.{is_ascii_digit, is_ascii_alphabetic}
use Rattle.qil_lexer.specs.declared.token.TokenKind.{TokenKind}
use Rattle.qil_lexer.specs.declared.token.TokenKind.TheVariants.{Global, Temp, Label, Aggregate, Word, Number, Quoted, Comma, Equals, OpenBrace, CloseBrace, OpenParen, CloseParen, Plus, Dots, Newline}
use Rattle.std.proofs.lemmas.List.{append-nil, drop-drop}
use Rattle.qil_lexer.specs.Shape.{Are, first_kind, item_len, item_value, Items, ItemValues, IsInside, StringBytes, HasShape}
use Rattle.qil_lexer.proofs.Items.{items_unique, item_quote}

-- ---- numbers

-- a test that gives another kind failed
past : (t : Bool) (kind : TokenKind) (others : Option TokenKind) → (Some kind ≡ Some Number → ⊥) → cond t (Some kind) others ≡ Some Number → others ≡ Some Number
past true kind others differ e = absurd (differ e)
past false kind others differ e = e

number_byte : (b : ℕ) → first_kind b ≡ Some Number → (is_ascii_digit b || eqb b 45) ≡ true
unfolding first_kind
number_byte b e =
    last (is_ascii_digit b || eqb b 45)
    (past (is_ascii_alphabetic b) Word _ (λ d. absurd cc)
    (past (eqb b 10) Newline _ (λ d. absurd cc)
    (past (eqb b 46) Dots _ (λ d. absurd cc)
    (past (eqb b 43) Plus _ (λ d. absurd cc)
    (past (eqb b 41) CloseParen _ (λ d. absurd cc)
    (past (eqb b 40) OpenParen _ (λ d. absurd cc)
    (past (eqb b 125) CloseBrace _ (λ d. absurd cc)
    (past (eqb b 123) OpenBrace _ (λ d. absurd cc)
    (past (eqb b 61) Equals _ (λ d. absurd cc)
    (past (eqb b 44) Comma _ (λ d. absurd cc)
    (past (eqb b 34) Quoted _ (λ d. absurd cc)
    (past (eqb b 58) Aggregate _ (λ d. absurd cc)
    (past (eqb b 64) Label _ (λ d. absurd cc)
    (past (eqb b 37) Temp _ (λ d. absurd cc)
    (past (eqb b 36) Global _ (λ d. absurd cc) e)))))))))))))))
  where
    last : (t : Bool) → cond t (Some Number) None ≡ Some Number → t ≡ true
    last true e = refl
    last false e = absurd cc

-- a number without a '-' is digits
pub number_digits : (bytes : List ℕ) → HasShape Number bytes → (get_or bytes 0 0 ≡ 45 → ⊥) → Are is_ascii_digit bytes
number_digits [] shape unsigned = tt
number_digits (b ∷ tail) shape unsigned = (digit (is_ascii_digit b) (number_byte b shape.0), shape.1.1)
  where
    digit : (t : Bool) → (t || eqb b 45) ≡ true → t ≡ true
    digit true e = refl
    digit false e = absurd (unsigned (eqb-true b 45 e))

-- ---- strings

-- a Quoted token is items between its quotes
pub quoted_inside : (text : List ℕ) → HasShape Quoted text → IsInside (drop 1 text)
quoted_inside [] shape = absurd shape
quoted_inside (b ∷ tail) shape = shape.1

pub quoted_some : (text : List ℕ) → HasShape Quoted text → 1 ≤ length text
quoted_some [] shape = absurd shape
quoted_some (b ∷ tail) shape = omega arith

-- values are of items
pub values_items : (values bytes rest : List ℕ) → ItemValues values bytes rest → Items (length values) bytes rest
values_items [] bytes rest values = values
values_items (v ∷ vs) bytes rest values = (values.0, values.1, values_items vs (drop values.0 bytes) rest values.3)

-- one more item
pub values_more : (done more text : List ℕ) (at len value : ℕ) → more ≡ done ++ value ∷ []
    → ((values rest : List ℕ) → ItemValues values (drop at text) rest → ItemValues (done ++ values) (drop 1 text) rest)
    → item_len (drop at text) ≡ Some len → item_value (drop at text) ≡ value
    → (values rest : List ℕ) → ItemValues values (drop (at + len) text) rest → ItemValues (more ++ values) (drop 1 text) rest
values_more done more text at len value pushed goes_on one stands values rest behind =
    let behind-item : ItemValues values (drop len (drop at text)) rest = subst (λ b. ItemValues values b rest) (sym (drop-drop len at text)) behind in
    let all : ItemValues (done ++ value ∷ values) (drop 1 text) rest = goes_on (value ∷ values) rest (len, one, stands, behind-item) in
    rw (pushed, append_assoc done (value ∷ []) values) all

-- where no item follows all of the string is read
pub values_end : (done text : List ℕ) (at : ℕ) → HasShape Quoted text
    → ((values rest : List ℕ) → ItemValues values (drop at text) rest → ItemValues (done ++ values) (drop 1 text) rest)
    → item_len (drop at text) ≡ None → StringBytes text done
values_end done text at shape goes_on none =
    let inside = quoted_inside text shape in
    let here = values_items (done ++ []) (drop 1 text) (drop at text) (goes_on [] (drop at text) refl) in
    let quote = items_unique (length (done ++ [])) inside.0 (drop 1 text) (drop at text) (34 ∷ []) here inside.1 none (item_quote []) in
    subst (λ vs. ItemValues vs (drop 1 text) (34 ∷ [])) (append-nil done) (goes_on [] (34 ∷ []) quote)

-- items have values
items_values : (n : ℕ) (bytes rest : List ℕ) → Items n bytes rest → (values : List ℕ) × ItemValues values bytes rest
items_values zero bytes rest items = ([], items)
items_values (suc n) bytes rest items =
    let more = items_values n (drop items.0 bytes) rest items.2 in
    (item_value bytes ∷ more.0, (items.0, items.1, refl, more.1))

pub some_bytes : (text : List ℕ) → HasShape Quoted text → (values : List ℕ) × StringBytes text values
some_bytes text shape = let inside = quoted_inside text shape in items_values inside.0 (drop 1 text) (34 ∷ []) inside.1

-- and one list of them
values_unique : (v w bytes : List ℕ) → ItemValues v bytes (34 ∷ []) → ItemValues w bytes (34 ∷ []) → v ≡ w
values_unique [] [] bytes p q = refl
values_unique [] (w ∷ ws) bytes p q = let e : item_len bytes ≡ None = ap item_len p ∙ item_quote [] in let f = q.1 in absurd cc
values_unique (v ∷ vs) [] bytes p q = let e : item_len bytes ≡ None = ap item_len q ∙ item_quote [] in let f = p.1 in absurd cc
values_unique (v ∷ vs) (w ∷ ws) bytes p q =
    let len : p.0 ≡ q.0 = some_is p.0 q.0 (sym p.1 ∙ q.1) in
    let others = values_unique vs ws (drop p.0 bytes) p.3 (subst (λ k. ItemValues ws (drop k bytes) (34 ∷ [])) (sym len) q.3) in
    let first : v ≡ w = sym p.2 ∙ q.2 in
    λ i. first i ∷ others i
  where
    some_is : (a b : ℕ) → Some a ≡ Some b → a ≡ b
    some_is a b e = cc

pub one_bytes : (text v w : List ℕ) → StringBytes text v → StringBytes text w → v ≡ w
one_bytes text v w p q = values_unique v w (drop 1 text) p q
