-- The items of a string, and where they stop.
use Rattle.std.proofs.Common.{◌≡◌, ℕ, zero, suc, ◌+◌, ◌<◌, ◌≤◌, Bool, true, false, cond, eqb, ltb, ◌&&◌, ◌||◌, List, [], ◌∷◌, ◌++◌, length, take, drop, ◌⊎◌, Option, Some, None, refl, sym, ap, subst, ◌∙◌, arith, inl, inr}
use Rattle.std.specs.Prelude.{option_map}
use Rattle.std.specs.List.{prefix_len, take_while}
use Rattle.std.proofs.lemmas.Bool.{cases_Bool, cond-true, cond-false, eqb-true}
use Rattle.std.proofs.lemmas.List.{take-append-drop, length-append, length-drop, drop-append-le, drop-drop, append_cancel_right}
use Rattle.std.proofs.lemmas.List.Folds.{length-prefix_len}
use Rattle.qil_lexer.specs.declared.token.TokenKind.TheVariants.{Quoted}
use Rattle.qil_lexer.specs.declared.error.LexCode.{LexCode}
use Rattle.qil_lexer.specs.declared.error.LexCode.TheVariants.{L1, L2, L3, L4, L5, L6}
use Rattle.qil_lexer.specs.Shape.{begins, is_octal, is_escape_letter, octals, octal_value, escape_len, item_len, Items, IsUnended, IsBadEscape}
use Rattle.qil_lexer.specs.Prefix.{IsLongestTail, TailFails, IsClosed, StopFails}

-- ---- a run is settled by the byte that ends it

run_longer : (p : ℕ → Bool) (xs ys : List ℕ) → prefix_len p xs < length xs → take_while p (xs ++ ys) ≡ take_while p xs
run_longer p [] ys lt = absurd (omega arith)
run_longer p (x ∷ xs) ys lt = elim (cases_Bool (p x)) [
  | inl t ↦
      let a = cond-true (p x) (1 + prefix_len p xs) 0 t in
      let b = cond-true (p x) (1 + prefix_len p (xs ++ ys)) 0 t in
      let s : (n : ℕ) → 1 + n ≡ suc n = λ n. omega arith in
      let ih = run_longer p xs ys (omega (arith, a)) in
      rw (a, b, s (prefix_len p xs), s (prefix_len p (xs ++ ys))) (ap (λ l. x ∷ l) ih)
  | inr f ↦ rw (cond-false (p x) (1 + prefix_len p xs) 0 f, cond-false (p x) (1 + prefix_len p (xs ++ ys)) 0 f) refl
]

run_shorter : (p : ℕ → Bool) (xs ys : List ℕ) → prefix_len p (xs ++ ys) < length xs → take_while p (xs ++ ys) ≡ take_while p xs
run_shorter p [] ys lt = absurd (omega arith)
run_shorter p (x ∷ xs) ys lt = elim (cases_Bool (p x)) [
  | inl t ↦
      let a = cond-true (p x) (1 + prefix_len p xs) 0 t in
      let b = cond-true (p x) (1 + prefix_len p (xs ++ ys)) 0 t in
      let s : (n : ℕ) → 1 + n ≡ suc n = λ n. omega arith in
      let ih = run_shorter p xs ys (omega (arith, b)) in
      rw (a, b, s (prefix_len p xs), s (prefix_len p (xs ++ ys))) (ap (λ l. x ∷ l) ih)
  | inr f ↦ rw (cond-false (p x) (1 + prefix_len p xs) 0 f, cond-false (p x) (1 + prefix_len p (xs ++ ys)) 0 f) refl
]

-- the prefix of at most three bytes, of more bytes
take_three : (xs ys : List ℕ) → ((take 3 (xs ++ ys) ≡ take 3 xs) × (3 ≤ length xs)) ⊎ ((length xs < 3) × (rest : List ℕ) × (take 3 (xs ++ ys) ≡ xs ++ rest) × (take 3 xs ≡ xs))
take_three [] ys = inr (omega arith, take 3 ys, refl, refl)
take_three (a ∷ []) ys = inr (omega arith, take 2 ys, refl, refl)
take_three (a ∷ b ∷ []) ys = inr (omega arith, take 1 ys, refl, refl)
take_three (a ∷ b ∷ c ∷ xs) ys = inl (refl, omega arith)

pub octals_len : (xs : List ℕ) → length (octals xs) ≡ prefix_len is_octal (take 3 xs)
octals_len xs = length-prefix_len is_octal (take 3 xs)

octals_longer : (xs ys : List ℕ) → length (octals xs) < length xs → octals (xs ++ ys) ≡ octals xs
octals_longer xs ys lt = elim (take_three xs ys) [
  | inl long ↦ ap (take_while is_octal) long.0
  | inr short ↦ ap (take_while is_octal) short.2 ∙ run_longer is_octal xs short.1 (let e = octals_len xs in let f = ap (λ l. prefix_len is_octal l) short.3 in omega arith) ∙ ap (take_while is_octal) (sym short.3)
]

octals_shorter : (xs ys : List ℕ) → length (octals (xs ++ ys)) < length xs → octals (xs ++ ys) ≡ octals xs
octals_shorter xs ys lt = elim (take_three xs ys) [
  | inl long ↦ ap (take_while is_octal) long.0
  | inr short ↦ ap (take_while is_octal) short.2 ∙ run_shorter is_octal xs short.1 (let e = octals_len (xs ++ ys) in let f = ap (λ l. prefix_len is_octal l) short.2 in omega arith) ∙ ap (take_while is_octal) (sym short.3)
]

-- an escape is a letter's, or octal digits
abbrev done : ℕ → Option ℕ
done n = Some n

done_is : (m n : ℕ) → done m ≡ done n → m ≡ n
done_is m n e = cc

pub escape_ways : (bytes : List ℕ) (n : ℕ) → escape_len bytes ≡ Some n → ((begins is_escape_letter bytes ≡ true) × (n ≡ 1)) ⊎ ((begins is_escape_letter bytes ≡ false) × (n ≡ length (octals bytes)))
unfolding escape_len
escape_ways bytes n e = elim (cases_Bool (begins is_escape_letter bytes)) [
  | inl t ↦ inl (t, done_is n 1 (sym e ∙ cond-true (begins is_escape_letter bytes) (Some 1) (cond (begins is_octal bytes && ltb (octal_value (octals bytes)) 256) (Some (length (octals bytes))) None) t))
  | inr f ↦
      let e2 : cond (begins is_octal bytes && ltb (octal_value (octals bytes)) 256) (Some (length (octals bytes))) None ≡ Some n = sym (cond-false (begins is_escape_letter bytes) (Some 1) (cond (begins is_octal bytes && ltb (octal_value (octals bytes)) 256) (Some (length (octals bytes))) None) f) ∙ e in
      inr (f, some_of (begins is_octal bytes && ltb (octal_value (octals bytes)) 256) (length (octals bytes)) n e2)
]
  where
    some_of : (b : Bool) (m n : ℕ) → cond b (Some m) None ≡ Some n → n ≡ m
    some_of true m n e = cc
    some_of false m n e = absurd cc

escape_longer : (xs ys : List ℕ) (n : ℕ) → escape_len xs ≡ Some n → n < length xs → escape_len (xs ++ ys) ≡ Some n
unfolding escape_len
escape_longer [] ys n e lt = absurd (omega arith)
escape_longer (c ∷ xs) ys n e lt = elim (escape_ways (c ∷ xs) n e) [
  | inl letter ↦ rw (cond-true (is_escape_letter c) (Some 1) (cond (is_octal c && ltb (octal_value (octals (c ∷ (xs ++ ys)))) 256) (Some (length (octals (c ∷ (xs ++ ys))))) None) letter.0, letter.1) refl
  | inr digits ↦ let same : octals (c ∷ (xs ++ ys)) ≡ octals (c ∷ xs) = octals_longer (c ∷ xs) ys (omega (arith, digits.1)) in rw same e
]

escape_shorter : (xs ys : List ℕ) (n : ℕ) → escape_len (xs ++ ys) ≡ Some n → n < length xs → escape_len xs ≡ Some n
unfolding escape_len
escape_shorter [] ys n e lt = absurd (omega arith)
escape_shorter (c ∷ xs) ys n e lt = elim (escape_ways (c ∷ (xs ++ ys)) n e) [
  | inl letter ↦ rw (cond-true (is_escape_letter c) (Some 1) (cond (is_octal c && ltb (octal_value (octals (c ∷ xs))) 256) (Some (length (octals (c ∷ xs)))) None) letter.0, letter.1) refl
  | inr digits ↦ let same : octals (c ∷ (xs ++ ys)) ≡ octals (c ∷ xs) = octals_shorter (c ∷ xs) ys (omega (arith, digits.1)) in rw (← same) e
]

-- an item is an escape after a backslash, or a byte
pub item_ways : (b : ℕ) (xs : List ℕ) (n : ℕ) → item_len (b ∷ xs) ≡ Some n → ((b ≡ 92) × (k : ℕ) × (escape_len xs ≡ Some k) × (n ≡ suc k)) ⊎ ((eqb b 92 ≡ false) × (n ≡ 1))
unfolding item_len
item_ways b xs n e = elim (cases_Bool (eqb b 92)) [
  | inl t ↦ let m = mapped (escape_len xs) n (sym (cond-true (eqb b 92) (option_map (λ k. suc k) (escape_len xs)) (cond (eqb b 10 || eqb b 34) None (Some 1)) t) ∙ e) in inl (eqb-true b 92 t, m.0, m.1, m.2)
  | inr f ↦ inr (f, one_of (eqb b 10 || eqb b 34) n (sym (cond-false (eqb b 92) (option_map (λ k. suc k) (escape_len xs)) (cond (eqb b 10 || eqb b 34) None (Some 1)) f) ∙ e))
]
  where
    mapped : (o : Option ℕ) (n : ℕ) → option_map (λ k. suc k) o ≡ Some n → (k : ℕ) × (o ≡ Some k) × (n ≡ suc k)
    mapped None n e = absurd cc
    mapped (Some k) n e = (k, refl, done_is n (suc k) (sym e))

    one_of : (b : Bool) (n : ℕ) → cond b None (Some 1) ≡ Some n → n ≡ 1
    one_of true n e = absurd cc
    one_of false n e = cc

item_escape : (xs : List ℕ) (k : ℕ) → escape_len xs ≡ Some k → item_len (92 ∷ xs) ≡ Some (suc k)
unfolding item_len
item_escape xs k e = ap (λ o. option_map (λ j. suc j) o) e

item_plain : (b : ℕ) (xs ys : List ℕ) (n : ℕ) → eqb b 92 ≡ false → item_len (b ∷ xs) ≡ Some n → item_len (b ∷ ys) ≡ Some n
unfolding item_len
item_plain b xs ys n f e = cond-false (eqb b 92) (option_map (λ k. suc k) (escape_len ys)) (cond (eqb b 10 || eqb b 34) None (Some 1)) f ∙ sym (cond-false (eqb b 92) (option_map (λ k. suc k) (escape_len xs)) (cond (eqb b 10 || eqb b 34) None (Some 1)) f) ∙ e

-- an item stays one where more follows, if a byte came after it already
item_longer : (xs ys : List ℕ) (n : ℕ) → item_len xs ≡ Some n → n < length xs → item_len (xs ++ ys) ≡ Some n
item_longer [] ys n e lt = absurd (omega arith)
item_longer (b ∷ xs) ys n e lt = elim (item_ways b xs n e) [
  | inl escape ↦ rw (escape.0, escape.3) (item_escape (xs ++ ys) escape.1 (escape_longer xs ys escape.1 escape.2 (omega (arith, escape.3))))
  | inr plain ↦ item_plain b xs (xs ++ ys) n plain.0 e
]

-- and where less follows, if one byte does
item_shorter : (xs ys : List ℕ) (n : ℕ) → item_len (xs ++ ys) ≡ Some n → n < length xs → item_len xs ≡ Some n
item_shorter [] ys n e lt = absurd (omega arith)
item_shorter (b ∷ xs) ys n e lt = elim (item_ways b (xs ++ ys) n e) [
  | inl escape ↦ rw (escape.0, escape.3) (item_escape xs escape.1 (escape_shorter xs ys escape.1 escape.2 (omega (arith, escape.3))))
  | inr plain ↦ item_plain b (xs ++ ys) xs n plain.0 e
]

-- ---- items in turn

pub items_none : (bytes : List ℕ) → Items 0 bytes bytes
items_none bytes = refl

pub items_push : (n len : ℕ) (bytes rest : List ℕ) → Items n bytes rest → item_len rest ≡ Some len → Items (suc n) bytes (drop len rest)
items_push zero len bytes rest items one = (len, ap item_len items ∙ one, ap (drop len) items)
items_push (suc n) len bytes rest items one = (items.0, items.1, items_push n len (drop items.0 bytes) rest items.2 one)

-- the items stop at one place
pub items_unique : (m n : ℕ) (bytes x y : List ℕ) → Items m bytes x → Items n bytes y → item_len x ≡ None → item_len y ≡ None → x ≡ y
items_unique zero zero bytes x y p q no-x no-y = sym p ∙ q
items_unique zero (suc n) bytes x y p q no-x no-y = let e : item_len bytes ≡ None = ap item_len p ∙ no-x in let f = q.1 in absurd cc
items_unique (suc m) zero bytes x y p q no-x no-y = let e : item_len bytes ≡ None = ap item_len q ∙ no-y in let f = p.1 in absurd cc
items_unique (suc m) (suc n) bytes x y p q no-x no-y =
    let same : p.0 ≡ q.0 = done_is p.0 q.0 (sym p.1 ∙ q.1) in
    items_unique m n (drop p.0 bytes) x y p.2 (subst (λ k. Items n (drop k bytes) y) (sym same) q.2) no-x no-y

items_fit : (n : ℕ) (bytes rest : List ℕ) → Items n bytes rest → length rest ≤ length bytes
items_fit zero bytes rest items = let e = ap length items in omega arith
items_fit (suc n) bytes rest items = omega (arith, items_fit n (drop items.0 bytes) rest items.2, length-drop items.0 bytes)

-- items up to a quote stay items where more follows
pub items_longer : (n : ℕ) (bytes ys : List ℕ) → Items n bytes (34 ∷ []) → Items n (bytes ++ ys) (34 ∷ ys)
items_longer zero bytes ys items = ap (λ l. l ++ ys) items
items_longer (suc n) bytes ys items =
    let left : 1 ≤ length (drop items.0 bytes) = items_fit n (drop items.0 bytes) (34 ∷ []) items.2 in
    let lt : items.0 < length bytes = omega (arith, length-drop items.0 bytes) in
    (items.0, item_longer bytes ys items.0 items.1 lt, rw (drop-append-le items.0 bytes ys (omega arith)) (items_longer n (drop items.0 bytes) ys items.2))

-- and where nothing follows any more
items_shorter : (n : ℕ) (bytes ys : List ℕ) → Items n (bytes ++ ys) (34 ∷ ys) → Items n bytes (34 ∷ [])
items_shorter zero bytes ys items = append_cancel_right bytes (34 ∷ []) ys items
items_shorter (suc n) bytes ys items =
    let fit : suc (length ys) ≤ length (drop items.0 (bytes ++ ys)) = items_fit n (drop items.0 (bytes ++ ys)) (34 ∷ ys) items.2 in
    let lt : items.0 < length bytes = omega (arith, length-drop items.0 (bytes ++ ys), length-append bytes ys) in
    let le : items.0 ≤ length bytes = omega arith in
    let part : Items n (drop items.0 bytes ++ ys) (34 ∷ ys) = rw drop-append-le at items.2 in
    (items.0, item_shorter bytes ys items.0 items.1 lt, items_shorter n (drop items.0 bytes) ys part)

-- ---- where they stop

pub item_quote : (bytes : List ℕ) → item_len (34 ∷ bytes) ≡ None
unfolding item_len
item_quote bytes = refl

pub unended_none : (bytes : List ℕ) → IsUnended bytes → item_len bytes ≡ None
unfolding item_len escape_len
unended_none [] u = refl
unended_none (b ∷ []) u = elim u [ inl e ↦ rw e refl | inr e ↦ rw e refl ]
unended_none (b ∷ c ∷ bytes) u = elim u [ inl e ↦ rw e refl | inr e ↦ rw (e.0, e.1) refl ]

pub bad_none : (bytes : List ℕ) → IsBadEscape bytes → item_len bytes ≡ None
unfolding item_len
bad_none [] bad = absurd bad
bad_none (b ∷ bytes) bad = rw (bad.0) (ap (λ o. option_map (λ j. suc j) o) bad.2)

-- what was found inside: the closing quote
pub inside_longest : (n end : ℕ) (tail : List ℕ) → end ≤ length tail → Items n tail (drop end tail) → IsClosed (drop end tail) → IsLongestTail Quoted 34 (end + 1) tail
inside_longest n end tail fits items closed = at_quote (drop end tail) refl closed
  where
    at_quote : (rest : List ℕ) → drop end tail ≡ rest → IsClosed rest → IsLongestTail Quoted 34 (end + 1) tail
    at_quote [] e none = absurd none
    at_quote (b ∷ rest) e quote =
        let whole : drop end tail ≡ 34 ∷ rest = e ∙ ap (λ c. c ∷ rest) quote in
        let len : length tail ≡ end + suc (length rest) = omega (arith, ap length whole, length-drop end tail) in
        let rest-is : drop (end + 1) tail ≡ rest = sym (drop-drop 1 end tail) ∙ ap (drop 1) whole in
        record {
          fits = omega arith;
          shape = (n, items_shorter n (take (end + 1) tail) (drop (end + 1) tail) (rw (take-append-drop (end + 1) tail, rest-is, ← whole) items));
          longest = λ m lt m-fits shape.
              let other : Items shape.0 tail (34 ∷ drop m tail) = subst (λ t. Items shape.0 t (34 ∷ drop m tail)) (take-append-drop m tail) (items_longer shape.0 (take m tail) (drop m tail) shape.1) in
              let same = items_unique n shape.0 tail (drop end tail) (34 ∷ drop m tail) items other (ap item_len whole ∙ item_quote rest) (item_quote (drop m tail)) in
              absurd (omega (arith, ap length same, length-drop m tail, length-drop end tail));
        }

pub inside_fails : (code : LexCode) (n : ℕ) (tail rest : List ℕ) → Items n tail rest → StopFails code rest → TailFails code 34 tail
inside_fails L1 n tail rest items stop = absurd stop
inside_fails L2 n tail rest items stop = absurd stop
inside_fails L3 n tail rest items stop = absurd stop
inside_fails L4 n tail rest items stop = (refl, n, rest, items, stop)
inside_fails L5 n tail rest items stop = (refl, n, rest, items, stop)
inside_fails L6 n tail rest items stop = absurd stop
