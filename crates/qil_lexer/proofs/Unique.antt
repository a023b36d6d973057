-- A text has one cut at most, and one fault at most, and not both.
use Rattle.std.proofs.Common.{◌≡◌, ℕ, zero, suc, ◌+◌, ◌-◌, ◌⊎◌, Bool, true, false, not, eqb, List, [], ◌∷◌, length, take, drop, map, Option, Some, None, refl, sym, ap, subst, ◌∙◌, arith, inl, inr}
use Rattle.std.proofs.lemmas.Bool.{cases_order}
use Rattle.std.proofs.lemmas.List.{take-append-drop, drop_all}
use Rattle.std.specs.Char.{is_ascii_digit}
use Rattle.qil_lexer.specs.declared.token.TokenKind.{TokenKind}
use Rattle.qil_lexer.specs.declared.token.TokenKind.TheVariants.{Global, Temp, Label, Aggregate, Number, Quoted, Dots}
use Rattle.qil_lexer.specs.declared.token.Token.{Token}
use Rattle.qil_lexer.specs.declared.error.LexCode.{LexCode}
use Rattle.qil_lexer.specs.declared.error.LexCode.TheVariants.{L1, L2, L3, L4, L5, L6}
use Rattle.qil_lexer.specs.Shape.{begins, is_name_byte, Items, IsUnended, IsBadEscape, IsInRange, item_len, first_kind, HasTail, HasShape}
use Rattle.qil_lexer.specs.Cut.{IsLongestGap, IsLongest, IsGapBetween, IsTokenOf, end_of, CutsBetween, Fails, IsSigil, line_of, content_of}
use Rattle.qil_lexer.proofs.Items.{items_unique, items_longer, item_quote, unended_none, bad_none}

gap_unique : (m n : ℕ) (text : List ℕ) → IsLongestGap m text → IsLongestGap n text → m ≡ n
gap_unique m n text p q = elim (cases_order m n) [
  | inl same ↦ same
  | inr differ ↦ elim differ [ inl lt ↦ absurd (p.longest n lt q.fits q.shape) | inr gt ↦ absurd (q.longest m gt p.fits p.shape) ]
]

some_is : {A : Type 0} (a b : A) → Some a ≡ Some b → a ≡ b
some_is a b e = cc

kind_unique : (j k : TokenKind) (bytes : List ℕ) → HasShape j bytes → HasShape k bytes → j ≡ k
kind_unique j k [] p q = absurd p
kind_unique j k (b ∷ tail) p q = some_is j k (sym p.0 ∙ q.0)

longest_unique : (j k : TokenKind) (m n : ℕ) (text : List ℕ) → IsLongest j m text → IsLongest k n text → (j ≡ k) × (m ≡ n)
longest_unique j k m n text p q = elim (cases_order m n) [
  | inl same ↦ (kind_unique j k (take n text) (subst (λ i. HasShape j (take i text)) same p.shape) q.shape, same)
  | inr differ ↦ elim differ [ inl lt ↦ absurd (p.longest k n lt q.fits q.shape) | inr gt ↦ absurd (q.longest j m gt p.fits p.shape) ]
]

-- ---- where a place fails no token stands

-- no token is at the start, in range or not
abbrev pub IsBare : List ℕ → Type 0
IsBare text = (kind : TokenKind) (n : ℕ) → IsLongest kind n text → ⊥

-- no token in range is at the start
abbrev pub IsStop : List ℕ → Type 0
IsStop text = (kind : TokenKind) (n : ℕ) → IsLongest kind n text → (kind ≡ Number → IsInRange (take n text)) → ⊥

kind_46 : first_kind 46 ≡ Some Dots
unfolding first_kind
kind_46 = refl

kind_45 : first_kind 45 ≡ Some Number
unfolding first_kind
kind_45 = refl

kind_34 : first_kind 34 ≡ Some Quoted
unfolding first_kind
kind_34 = refl

-- no prefix of the bytes after the first is the rest of a token of the kind
abbrev NoTail : TokenKind → ℕ → List ℕ → Type 0
NoTail kind b tail = (m : ℕ) → HasTail kind b (take m tail) → ⊥

stop_at_kind : (own : TokenKind) (b : ℕ) (tail : List ℕ) → first_kind b ≡ Some own → NoTail own b tail → IsBare (b ∷ tail)
stop_at_kind own b tail known none kind zero token = absurd token.shape
stop_at_kind own b tail known none kind (suc m) token =
    let same : kind ≡ own = some_is kind own (sym token.shape.0 ∙ known) in
    none m (subst (λ k. HasTail k b (take m tail)) same token.shape.1)

stop_none : (b : ℕ) (tail : List ℕ) → first_kind b ≡ None → IsBare (b ∷ tail)
stop_none b tail none kind zero token = absurd token.shape
stop_none b tail none kind (suc m) token = let e = token.shape.0 in absurd cc

false-is : (t : Bool) → t ≡ false → t ≡ true → ⊥
false-is t f e = absurd cc

begins-take : (p : ℕ → Bool) (m : ℕ) (tail : List ℕ) → begins p tail ≡ false → begins p (take m tail) ≡ true → ⊥
begins-take p zero tail f t = absurd cc
begins-take p (suc m) [] f t = absurd cc
begins-take p (suc m) (b ∷ tail) f t = false-is (p b) f t

no_name : (tail : List ℕ) → begins is_name_byte tail ≡ false → (m : ℕ) → (begins is_name_byte (take m tail) ≡ true) → ⊥
no_name tail f m t = begins-take is_name_byte m tail f t

no_dots : (tail : List ℕ) → (take 2 tail ≡ 46 ∷ 46 ∷ [] → ⊥) → (m : ℕ) → take m tail ≡ 46 ∷ 46 ∷ [] → ⊥
no_dots tail none zero e = absurd cc
no_dots [] none (suc m) e = absurd cc
no_dots (b ∷ tail) none (suc zero) e = absurd cc
no_dots (b ∷ []) none (suc (suc m)) e = absurd cc
no_dots (b ∷ c ∷ tail) none (suc (suc m)) e = none (let first : b ≡ 46 = cc in let second : c ≡ 46 = cc in rw (first, second) refl)

-- a string that stops elsewhere has no end
inside_rest : (n m k : ℕ) (tail rest : List ℕ) → Items n tail rest → item_len rest ≡ None → Items k (take m tail) (34 ∷ []) → rest ≡ 34 ∷ drop m tail
inside_rest n m k tail rest items none inside =
    let other : Items k tail (34 ∷ drop m tail) = subst (λ t. Items k t (34 ∷ drop m tail)) (take-append-drop m tail) (items_longer k (take m tail) (drop m tail) inside) in
    items_unique n k tail rest (34 ∷ drop m tail) items other none (item_quote (drop m tail))

unended_byte : (b : ℕ) (rest : List ℕ) → IsUnended (b ∷ rest) → (b ≡ 10) ⊎ (b ≡ 92)
unended_byte b [] u = u
unended_byte b (c ∷ rest) u = elim u [ inl e ↦ inl e | inr e ↦ inr e.0 ]

unended_quote : (b : ℕ) (rest : List ℕ) → b ≡ 34 → IsUnended (b ∷ rest) → ⊥
unended_quote b rest quote u = elim (unended_byte b rest u) [ inl e ↦ absurd (omega arith) | inr e ↦ absurd (omega arith) ]

bad_quote : (b : ℕ) (rest : List ℕ) → b ≡ 34 → IsBadEscape (b ∷ rest) → ⊥
bad_quote b rest quote bad = let e = bad.0 in absurd (omega arith)

sigil_stops : (b : ℕ) (tail : List ℕ) → IsSigil b → begins is_name_byte tail ≡ false → IsBare (b ∷ tail)
sigil_stops b tail sigil none = elim sigil [
  | inl three ↦ elim three [
    | inl two ↦ elim two [
      | inl e ↦ stop_at_kind Global b tail e (λ m t. no_name tail none m t.0)
      | inr e ↦ stop_at_kind Temp b tail e (λ m t. no_name tail none m t.0)
    ]
    | inr e ↦ stop_at_kind Label b tail e (λ m t. no_name tail none m t.0)
  ]
  | inr e ↦ stop_at_kind Aggregate b tail e (λ m t. no_name tail none m t.0)
]

-- each code but L3 says so
fails_bare : (code : LexCode) (b : ℕ) (tail : List ℕ) → Fails code (b ∷ tail) → (code ≡ L3 → ⊥) → IsBare (b ∷ tail)
fails_bare L1 b tail fails other = elim fails [
  | inl two ↦ elim two [
    | inl stray ↦ stop_none b tail stray.0
    | inr minus ↦ stop_at_kind Number b tail (rw minus.0 kind_45) (λ m t. begins-take is_ascii_digit m tail minus.1 (t.0 minus.0))
  ]
  | inr dot ↦ stop_at_kind Dots b tail (rw dot.0 kind_46) (no_dots tail dot.1)
]
fails_bare L2 b tail fails other = sigil_stops b tail fails.0 fails.1
fails_bare L3 b tail fails other = absurd (other refl)
fails_bare L4 b tail fails other = stop_at_kind Quoted b tail (rw fails.0 kind_34) (λ m t. unended_quote 34 (drop m tail) refl (subst IsUnended (inside_rest fails.1 m t.0 tail fails.2 fails.3 (unended_none fails.2 fails.4) t.1) fails.4))
fails_bare L5 b tail fails other = stop_at_kind Quoted b tail (rw fails.0 kind_34) (λ m t. bad_quote 34 (drop m tail) refl (subst IsBadEscape (inside_rest fails.1 m t.0 tail fails.2 fails.3 (bad_none fails.2 fails.4) t.1) fails.4))
fails_bare L6 b tail fails other = absurd fails

pub fails_stops : (code : LexCode) (text : List ℕ) → Fails code text → IsStop text
fails_stops code [] fails = absurd fails
fails_stops L1 (b ∷ tail) fails = λ kind n token in_range. fails_bare L1 b tail fails (λ e. absurd cc) kind n token
fails_stops L2 (b ∷ tail) fails = λ kind n token in_range. fails_bare L2 b tail fails (λ e. absurd cc) kind n token
fails_stops L3 (b ∷ tail) fails = λ kind n token in_range.
    let same = longest_unique kind Number n fails.0 (b ∷ tail) token fails.1 in
    fails.2 (subst (λ i. IsInRange (take i (b ∷ tail))) same.1 (in_range same.0))
fails_stops L4 (b ∷ tail) fails = λ kind n token in_range. fails_bare L4 b tail fails (λ e. absurd cc) kind n token
fails_stops L5 (b ∷ tail) fails = λ kind n token in_range. fails_bare L5 b tail fails (λ e. absurd cc) kind n token
fails_stops L6 (b ∷ tail) fails = absurd fails

-- ---- one code

-- what a code says of the first byte's kind
abbrev class_of : Option TokenKind → ℕ
class_of (Some Quoted) = 4
class_of (Some Global) = 2
class_of (Some Temp) = 2
class_of (Some Label) = 2
class_of (Some Aggregate) = 2
class_of kind = 1

abbrev class : LexCode → ℕ
class L1 = 1
class L2 = 2
class L3 = 1
class L4 = 4
class L5 = 4
class L6 = 6

number_first : (b n : ℕ) (tail : List ℕ) → IsLongest Number n (b ∷ tail) → first_kind b ≡ Some Number
number_first b zero tail token = absurd token.shape
number_first b (suc n) tail token = token.shape.0

code_class : (code : LexCode) (b : ℕ) (tail : List ℕ) → Fails code (b ∷ tail) → class_of (first_kind b) ≡ class code
code_class L1 b tail fails = elim fails [
  | inl two ↦ elim two [ inl stray ↦ ap class_of stray.0 | inr minus ↦ rw minus.0 (ap class_of kind_45) ]
  | inr dot ↦ rw dot.0 (ap class_of kind_46)
]
code_class L2 b tail fails = elim fails.0 [
  | inl three ↦ elim three [ inl two ↦ elim two [ inl e ↦ ap class_of e | inr e ↦ ap class_of e ] | inr e ↦ ap class_of e ]
  | inr e ↦ ap class_of e
]
code_class L3 b tail fails = ap class_of (number_first b fails.0 tail fails.1)
code_class L4 b tail fails = rw fails.0 (ap class_of kind_34)
code_class L5 b tail fails = rw fails.0 (ap class_of kind_34)
code_class L6 b tail fails = absurd fails

in_line_not : (b : ℕ) → b ≡ 10 → not (eqb b 10) ≡ true → ⊥
in_line_not b e t = let f : not (eqb 10 10) ≡ true = rw e at t in false-is false refl f

unended_not_bad : (rest : List ℕ) → IsUnended rest → IsBadEscape rest → ⊥
unended_not_bad [] u bad = bad
unended_not_bad (b ∷ []) u bad = let f = bad.1 in absurd cc
unended_not_bad (b ∷ c ∷ rest) u bad = elim u [ inl e ↦ let f = bad.0 in absurd (omega arith) | inr e ↦ in_line_not c e.1 bad.1 ]

four_not_five : (b : ℕ) (tail : List ℕ) → Fails L4 (b ∷ tail) → Fails L5 (b ∷ tail) → ⊥
four_not_five b tail p q =
    let same = items_unique p.1 q.1 tail p.2 q.2 p.3 q.3 (unended_none p.2 p.4) (bad_none q.2 q.4) in
    unended_not_bad q.2 (subst IsUnended same p.4) q.4

one_not_three : (b : ℕ) (tail : List ℕ) → Fails L1 (b ∷ tail) → Fails L3 (b ∷ tail) → ⊥
one_not_three b tail p q = fails_bare L1 b tail p (λ e. absurd cc) Number q.0 q.1

same_class : (c d : LexCode) (b : ℕ) (tail : List ℕ) → Fails c (b ∷ tail) → Fails d (b ∷ tail) → class c ≡ class d → c ≡ d
same_class L1 L1 b tail p q e = refl
same_class L1 L2 b tail p q e = absurd (omega arith)
same_class L1 L3 b tail p q e = absurd (one_not_three b tail p q)
same_class L1 L4 b tail p q e = absurd (omega arith)
same_class L1 L5 b tail p q e = absurd (omega arith)
same_class L2 L1 b tail p q e = absurd (omega arith)
same_class L2 L2 b tail p q e = refl
same_class L2 L3 b tail p q e = absurd (omega arith)
same_class L2 L4 b tail p q e = absurd (omega arith)
same_class L2 L5 b tail p q e = absurd (omega arith)
same_class L3 L1 b tail p q e = absurd (one_not_three b tail q p)
same_class L3 L2 b tail p q e = absurd (omega arith)
same_class L3 L3 b tail p q e = refl
same_class L3 L4 b tail p q e = absurd (omega arith)
same_class L3 L5 b tail p q e = absurd (omega arith)
same_class L4 L1 b tail p q e = absurd (omega arith)
same_class L4 L2 b tail p q e = absurd (omega arith)
same_class L4 L3 b tail p q e = absurd (omega arith)
same_class L4 L4 b tail p q e = refl
same_class L4 L5 b tail p q e = absurd (four_not_five b tail p q)
same_class L5 L1 b tail p q e = absurd (omega arith)
same_class L5 L2 b tail p q e = absurd (omega arith)
same_class L5 L3 b tail p q e = absurd (omega arith)
same_class L5 L4 b tail p q e = absurd (four_not_five b tail q p)
same_class L5 L5 b tail p q e = refl
same_class L6 d b tail p q e = absurd p
same_class c L6 b tail p q e = absurd q

pub fails_unique : (c d : LexCode) (text : List ℕ) → Fails c text → Fails d text → c ≡ d
fails_unique c d [] p q = absurd p
fails_unique c d (b ∷ tail) p q = same_class c d b tail p q (sym (code_class c b tail p) ∙ code_class d b tail q)

pub end_stops : (text : List ℕ) → IsStop (drop (length text) text)
end_stops text kind n token in_range = absurd (none kind n (subst (IsLongest kind n) (drop_all (length text) text (omega arith)) token))
  where
    none : (kind : TokenKind) (n : ℕ) → IsLongest kind n [] → ⊥
    none kind zero token = token.shape
    none kind (suc n) token = token.shape

-- ---- one walk

gap_between_unique : (text : List ℕ) (from a b : ℕ) → IsGapBetween text from a → IsGapBetween text from b → a ≡ b
gap_between_unique text from a b p q = omega (arith, gap_unique (a - from) (b - from) (drop from text) p.longest q.longest, p.ordered, q.ordered)

stop_token : (text : List ℕ) (at : ℕ) (t : Token) → IsTokenOf text t → at ≡ t.start → IsStop (drop at text) → ⊥
stop_token text at t token e stop = subst (λ n. IsStop (drop n text)) e stop t.kind (length t.text.now) token.longest (λ number. subst IsInRange token.slice (token.in_range number))

token_unique : (text : List ℕ) (t u : Token) → IsTokenOf text t → IsTokenOf text u → t.start ≡ u.start → (content_of t ≡ content_of u) × (end_of t ≡ end_of u)
token_unique text t u p q e =
    let same = longest_unique t.kind u.kind (length t.text.now) (length u.text.now) (drop u.start text) (subst (λ n. IsLongest t.kind (length t.text.now) (drop n text)) e p.longest) q.longest in
    let bytes : t.text.now ≡ u.text.now = p.slice ∙ (λ i. take (same.1 i) (drop (e i) text)) ∙ sym q.slice in
    let line : t.line ≡ u.line = p.line ∙ ap (λ n. line_of text n) e ∙ sym q.line in
    ((λ i. record { kind = same.0 i; bytes = bytes i; start = e i; line = line i }), (λ i. e i + same.1 i))

pub walk_unique : (text : List ℕ) (from a b : ℕ) (ts us : List Token) → CutsBetween text from ts a → CutsBetween text from us b → IsStop (drop a text) → IsStop (drop b text) → (map content_of ts ≡ map content_of us) × (a ≡ b)
walk_unique text from a b [] [] p q stop-a stop-b = (refl, gap_between_unique text from a b p q)
walk_unique text from a b [] (u ∷ us) p q stop-a stop-b = absurd (stop_token text a u q.1 (gap_between_unique text from a u.start p q.0) stop-a)
walk_unique text from a b (t ∷ ts) [] p q stop-a stop-b = absurd (stop_token text b t p.1 (gap_between_unique text from b t.start q p.0) stop-b)
walk_unique text from a b (t ∷ ts) (u ∷ us) p q stop-a stop-b =
    let same = token_unique text t u p.1 q.1 (gap_between_unique text from t.start u.start p.0 q.0) in
    let others = walk_unique text (end_of t) a b ts us p.2 (subst (λ n. CutsBetween text n us b) (sym same.1) q.2) stop-a stop-b in
    ((λ i. same.0 i ∷ others.0 i), others.1)
