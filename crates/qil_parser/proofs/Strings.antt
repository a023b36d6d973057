-- What string tokens represent, and what is kept of those that are left.
use Rattle.std.proofs.Common.{◌≡◌, ℕ, zero, suc, ◌-◌, ◌≤◌, ◌<◌, Bool, true, false, cond, List, [], ◌∷◌, take, drop, slice_index_or, length, Option, Some, None, option_map, refl, sym, ap, subst, ◌∙◌, inl, inr, arith}
use Rattle.std.proofs.Props.{props}
use Rattle.std.proofs.Math.Logic.{∥∥₁_elim, ∥∥₁_prop}
use Rattle.std.proofs.lemmas.List.{length-drop}
use Rattle.std.proofs.lemmas.Slice.Eq.{bytes_eq-Decides}
use Rattle.std.specs.Str.{bytes_eq}
use Rattle.qil_lexer.specs.declared.token.TokenKind.{TokenKind}
use Rattle.qil_lexer.specs.declared.token.TokenKind.TheVariants as kinds
use Rattle.qil_lexer.specs.declared.token.Token.{Token}
use Rattle.qil_lexer.specs.Shape.{first_kind, item_len, item_value, ItemValues, StringBytes, HasShape}
use Rattle.qil_lexer.specs.Cut.{CutsBetween, Cuts, end_of}
use Rattle.qil_lexer.proofs.Items.{item_ways, item_quote}
use Rattle.qil_lexer.proofs.Values.{some_bytes, values_items}
use Rattle.qil_language.specs.Language.{One}
use Rattle.qil_parser.specs.Token.{Tok, HasStrings}
use Rattle.qil_parser.specs.DataGrammar.{StringLiteral}
use Rattle.qil_parser.specs.DataParsing.{with_item, values_from, text_at}

-- ---- the bytes that a string represents, as a function

item_takes : (bytes : List ℕ) (len : ℕ) → item_len bytes ≡ Some len → (1 ≤ len) × (1 ≤ length bytes)
unfolding item_len
item_takes [] len e = absurd cc
item_takes (b ∷ bytes) len e = elim (item_ways b bytes len e) [
  | inl escape ↦ (omega (arith, escape.3), omega arith)
  | inr plain ↦ (omega (arith, plain.1), omega arith)
]

quote_closes : (b : Bool) (bytes values : List ℕ) → (b ≡ true → bytes ≡ 34 ∷ []) → cond b (Some []) None ≡ Some values → ItemValues values bytes (34 ∷ [])
quote_closes true bytes [] f e = f refl
quote_closes true bytes (v ∷ values) f e = absurd cc
quote_closes false bytes values f e = absurd cc

same_some : (x y : List ℕ) → Some x ≡ Some y → x ≡ y
same_some x y e = cc

one_more : (bytes : List ℕ) (len value : ℕ) (others : Option (List ℕ)) (values : List ℕ) → item_len bytes ≡ Some len → item_value bytes ≡ value → ((vs : List ℕ) → others ≡ Some vs → ItemValues vs (drop len bytes) (34 ∷ [])) → option_map (λ vs. value ∷ vs) others ≡ Some values → ItemValues values bytes (34 ∷ [])
one_more bytes len value None values l v below e = absurd cc
one_more bytes len value (Some vs) values l v below e =
    let made : ItemValues (value ∷ vs) bytes (34 ∷ []) = (len, l, v, below vs refl) in
    subst (λ (k : List ℕ). ItemValues k bytes (34 ∷ [])) (same_some (value ∷ vs) values e) made

with_item_is : (bytes values : List ℕ) (o : Option ℕ) (others : ℕ → Option (List ℕ)) → item_len bytes ≡ o → ((len : ℕ) (vs : List ℕ) → others len ≡ Some vs → ItemValues vs (drop len bytes) (34 ∷ [])) → with_item o (item_value bytes) others bytes ≡ Some values → ItemValues values bytes (34 ∷ [])
with_item_is bytes values None others l below e = quote_closes (bytes_eq bytes (34 ∷ [])) bytes values (λ h. (bytes_eq-Decides bytes (34 ∷ [])).0 h) e
with_item_is bytes values (Some len) others l below e = one_more bytes len (item_value bytes) (others len) values l refl (below len) e

from_values : (n : ℕ) (bytes values : List ℕ) → values_from n bytes ≡ Some values → ItemValues values bytes (34 ∷ [])
unfolding values_from
from_values zero bytes values e = absurd cc
from_values (suc n) bytes values e = with_item_is bytes values (item_len bytes) (λ len. values_from n (drop len bytes)) refl (λ len vs h. from_values n (drop len bytes) vs h) e

to_values : (n : ℕ) (values bytes : List ℕ) → length bytes < n → ItemValues values bytes (34 ∷ []) → values_from n bytes ≡ Some values
unfolding values_from
to_values zero values bytes lt h = absurd (omega arith)
to_values (suc n) [] bytes lt h =
    let none : item_len bytes ≡ None = ap item_len h ∙ item_quote [] in
    rw (none, (bytes_eq-Decides bytes (34 ∷ [])).1 h) refl
to_values (suc n) (v ∷ values) bytes lt h =
    let t = item_takes bytes h.0 h.1 in
    let below = to_values n values (drop h.0 bytes) (omega (arith, t.0, t.1, length-drop h.0 bytes)) h.3 in
    rw (h.1, h.2, below) refl

-- what the words of the string represent is what it is read as
pub string_is : (text values : List ℕ) → StringBytes text values → text_at kinds.Quoted text ≡ Some values
string_is text values h = to_values (suc (length text)) values (drop 1 text) (omega (arith, length-drop 1 text)) h

pub text_there : (ts : List Tok) (values : List ℕ) → One (λ t. text_at t.kind t.text) ts values → StringLiteral ts values
text_there ts values s =
    let k = parted s.token.kind s.token.text values s.means in
    record { token = s.token; alone = s.alone; quoted = k.0; means = k.1 }
  where
    parted : (kind : TokenKind) (text vs : List ℕ) → text_at kind text ≡ Some vs → (kind ≡ kinds.Quoted) × StringBytes text vs
    parted kinds.Quoted text vs e = (refl, from_values (suc (length text)) (drop 1 text) vs e)
    parted _ text vs e = absurd cc

pub text_back : (ts : List Tok) (values : List ℕ) → StringLiteral ts values → One (λ t. text_at t.kind t.text) ts values
text_back ts values s = record { token = s.token; alone = s.alone; means = ap (λ (k : TokenKind). text_at k s.token.text) s.quoted ∙ string_is s.token.text values s.means }

-- ---- what is kept

abbrev head_of : List ℕ → ℕ
head_of [] = 0
head_of (b ∷ bytes) = b

abbrev reads : Option (List ℕ) → Bool
reads None = false
reads (Some values) = true

-- a closed string, as a proposition
abbrev Closed : List ℕ → Type 0
Closed text = (first_kind (head_of text) ≡ Some kinds.Quoted) × (reads (text_at kinds.Quoted text) ≡ true)

closed_prop : (text : List ℕ) → IsProp (Closed text)
closed_prop text = hlevel props

closed : (text : List ℕ) → HasShape kinds.Quoted text → Closed text
closed [] shape = absurd shape
closed (b ∷ bytes) shape = let s = some_bytes (b ∷ bytes) shape in (shape.0, ap reads (string_is (b ∷ bytes) s.0 s.1))

inside : (b : ℕ) (bytes : List ℕ) (o : Option (List ℕ)) → text_at kinds.Quoted (b ∷ bytes) ≡ o → reads o ≡ true → first_kind b ≡ Some kinds.Quoted → HasShape kinds.Quoted (b ∷ bytes)
inside b bytes None e h k = absurd cc
inside b bytes (Some values) e h k = (k, (length values, values_items values bytes (34 ∷ []) (from_values (suc (length (b ∷ bytes))) bytes values e)))

opened : (text : List ℕ) → Closed text → HasShape kinds.Quoted text
unfolding values_from item_len first_kind
opened [] c = absurd cc
opened (b ∷ bytes) c = inside b bytes (text_at kinds.Quoted (b ∷ bytes)) refl c.1 c.0

strings_drop : (ts : List Token) → HasStrings ts → HasStrings (drop 1 ts)
strings_drop [] h = tt
strings_drop (t ∷ ts) h = h.1

strings_take : (n : ℕ) (ts : List Token) → HasStrings ts → HasStrings (take n ts)
strings_take zero ts h = tt
strings_take (suc n) [] h = tt
strings_take (suc n) (t ∷ ts) h = (h.0, strings_take n ts h.1)

pub strings_left : (ts : List Token) → ∥ HasStrings ts ∥₁ → ∥ HasStrings (take (length ts - 1) (drop 1 ts)) ∥₁
strings_left ts h = ∥∥₁_elim h ∥∥₁_prop (λ k. ∣ strings_take (length ts - 1) (drop 1 ts) (strings_drop ts k) ∣₁)

pub first_string : (ts : List Token) (d : Token) → 1 ≤ length ts → (slice_index_or ts 0 d).kind ≡ kinds.Quoted → ∥ HasStrings ts ∥₁ → HasShape kinds.Quoted (slice_index_or ts 0 d).text.now
first_string [] d le e h = absurd (omega arith)
first_string (t ∷ ts) d le e h = opened t.text.now (∥∥₁_elim h (closed_prop t.text.now) (λ k. closed t.text.now (k.0 e)))

from_shapes : (text : List ℕ) (from : ℕ) (ts : List Token) (to : ℕ) → CutsBetween text from ts to → HasStrings ts
from_shapes text from [] to c = tt
from_shapes text from (t ∷ ts) to c = (λ e. subst (λ (k : _). HasShape k t.text.now) e (subst (λ (l : List ℕ). HasShape t.kind l) (sym c.1.slice) c.1.longest.shape), from_shapes text (end_of t) ts to c.2)

pub cut_strings : (text : List ℕ) (ts : List Token) → Cuts text ts → ∥ HasStrings ts ∥₁
cut_strings text ts c = ∣ from_shapes text 0 ts (length text) c ∣₁
