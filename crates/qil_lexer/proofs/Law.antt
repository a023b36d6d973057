-- One answer for each text.
use Rattle.std.proofs.Common.{◌≡◌, ℕ, zero, suc, ◌^◌, ◌<◌, ◌≤◌, List, [], ◌∷◌, ◌++◌, length, take, drop, All, Err, sym, ap, subst, ◌∙◌, arith, inl, inr, append_assoc}
use Rattle.std.proofs.lemmas.List.{append-nil, length-drop}
use Rattle.std.proofs.lemmas.List.Elements.{All-nil, All-cons}
use Rattle.qil_lexer.specs.declared.token.TokenKind.{TokenKind}
use Rattle.qil_lexer.specs.declared.token.Token.{Token}
use Rattle.qil_lexer.specs.declared.error.LexCode.{LexCode}
use Rattle.qil_lexer.specs.declared.error.LexError.{LexError}
use Rattle.qil_lexer.specs.declared.error.LexError.TheVariants.{Refused, OutOfMemory}
use Rattle.qil_lexer.specs.Shape.{HasShape}
use Rattle.qil_lexer.specs.Cut.{IsGapBetween, IsTokenOf, IsShaped, end_of, CutsBetween, Cuts, Fails, FailsAt, TextFault, SameTokens, line_of}
use Rattle.qil_lexer.specs.Walk.{IsStep, IsNext, FailsAfter, IfRefused}
use Rattle.qil_lexer.proofs.Unique.{fails_stops, fails_unique, end_stops, walk_unique}

-- a text with a cut doesn't fail
pub cut_no_fault : (text : List ℕ) (ts : List Token) (code : LexCode) (line : ℕ) → length text ≤ 2 ^ 20 → Cuts text ts → TextFault text code line → ⊥
cut_no_fault text ts code line short cuts fault = elim fault [
  | inl long ↦ absurd (omega (arith, long.0))
  | inr fails ↦
      let f = fails.1 in
      let same = walk_unique text 0 (length text) f.at ts f.before cuts f.cut (end_stops text) (fails_stops code (drop f.at text) f.fails) in
      nowhere code (drop f.at text) (omega (arith, length-drop f.at text, same.1)) f.fails
]
  where
    nowhere : (code : LexCode) (rest : List ℕ) → length rest ≡ 0 → Fails code rest → ⊥
    nowhere code [] e fails = fails
    nowhere code (b ∷ rest) e fails = absurd (omega arith)

-- a step, seen from the start
pub goes_on_more : (text : List ℕ) (ts : List Token) (from to : ℕ) (token : Token) → ((us : List Token) (end : ℕ) → CutsBetween text from us end → CutsBetween text 0 (ts ++ us) end)
    → IsStep text from to token → (us : List Token) (end : ℕ) → CutsBetween text to us end → CutsBetween text 0 ((ts ++ token ∷ []) ++ us) end
goes_on_more text ts from to token goes_on step us end cut =
    subst (λ l. CutsBetween text 0 l end) (sym (append_assoc ts (token ∷ []) us)) (goes_on (token ∷ us) end (step.gap, step.token_of, subst (λ n. CutsBetween text n us end) step.ends cut))

pub ends : (text : List ℕ) (ts : List Token) (from to : ℕ) → ((us : List Token) (end : ℕ) → CutsBetween text from us end → CutsBetween text 0 (ts ++ us) end) → IsGapBetween text from to → CutsBetween text 0 ts to
ends text ts from to goes_on gap = subst (λ l. CutsBetween text 0 l to) (append-nil ts) (goes_on [] to gap)

pub fails_at : (text : List ℕ) (ts : List Token) (from : ℕ) (code : LexCode) (line : ℕ) → ((us : List Token) (end : ℕ) → CutsBetween text from us end → CutsBetween text 0 (ts ++ us) end) → FailsAfter text from code line → FailsAt text code line
fails_at text ts from code line goes_on f = record { before = ts; at = f.at; cut = ends text ts from f.at goes_on f.gap; fails = f.fails; line_is = f.line_is }

-- a token has a byte
some_byte : (kind : TokenKind) (n : ℕ) (bytes : List ℕ) → HasShape kind (take n bytes) → 0 < n
some_byte kind zero bytes shape = absurd shape
some_byte kind (suc n) bytes shape = omega arith

pub step_goes : (text : List ℕ) (from to : ℕ) (token : Token) → IsStep text from to token → from < to
step_goes text from to token step = omega (arith, step.gap.ordered, step.ends, some_byte token.kind (length token.text.now) (drop token.start text) step.token_of.longest.shape)

-- a refusal at a step is the text's
pub refused : (e : LexError) (text : List ℕ) (ts : List Token) (from to : ℕ) → length text ≤ 2 ^ 20 → ((us : List Token) (end : ℕ) → CutsBetween text from us end → CutsBetween text 0 (ts ++ us) end)
    → IsNext text from to (Err e) → IfRefused e (TextFault text)
refused OutOfMemory text ts from to short goes_on next = tt
refused (Refused code line) text ts from to short goes_on next = inr (short, fails_at text ts from code line goes_on next)

-- ---- one cut, one fault

pub one_cut : (text : List ℕ) (ts us : List Token) → Cuts text ts → Cuts text us → SameTokens ts us
one_cut text ts us p q = (walk_unique text 0 (length text) (length text) ts us p q (end_stops text) (end_stops text)).0

fails_at_unique : (text : List ℕ) (c d : LexCode) (k l : ℕ) → FailsAt text c k → FailsAt text d l → (c ≡ d) × (k ≡ l)
fails_at_unique text c d k l p q =
    let same = walk_unique text 0 p.at q.at p.before q.before p.cut q.cut (fails_stops c (drop p.at text) p.fails) (fails_stops d (drop q.at text) q.fails) in
    (fails_unique c d (drop q.at text) (subst (λ n. Fails c (drop n text)) same.1 p.fails) q.fails, p.line_is ∙ ap (line_of text) same.1 ∙ sym q.line_is)

pub one_fault : (text : List ℕ) (c d : LexCode) (k l : ℕ) → TextFault text c k → TextFault text d l → (c ≡ d) × (k ≡ l)
one_fault text c d k l p q = elim p [
  | inl long ↦ elim q [ inl also ↦ (long.1 ∙ sym also.1, long.2 ∙ sym also.2) | inr fails ↦ absurd (omega (arith, long.0, fails.0)) ]
  | inr at ↦ elim q [ inl long ↦ absurd (omega (arith, long.0, at.0)) | inr other ↦ fails_at_unique text c d k l at.1 other.1 ]
]

-- a refusal with the fault's code and line
pub refused_is : (e : LexError) (text : List ℕ) (code : LexCode) (line : ℕ) → IfRefused e (TextFault text) → TextFault text code line → IfRefused e (λ c l. (c ≡ code) × (l ≡ line))
refused_is OutOfMemory text code line is fault = tt
refused_is (Refused c l) text code line is fault = one_fault text c code l line is fault

pub not_refused : (e : LexError) (text : List ℕ) (ts : List Token) → length text ≤ 2 ^ 20 → Cuts text ts → IfRefused e (TextFault text) → IfRefused e (λ c l. ⊥)
not_refused OutOfMemory text ts short cuts is = tt
not_refused (Refused c l) text ts short cuts is = cut_no_fault text ts c l short cuts is

-- ---- what the tokens of a cut show of themselves

shaped : (text : List ℕ) (t : Token) → IsTokenOf text t → IsShaped t
shaped text t token = record { shape = subst (HasShape t.kind) (sym token.slice) token.longest.shape; in_range = token.in_range }

shapes_between : (text : List ℕ) (from to : ℕ) (ts : List Token) → CutsBetween text from ts to → All IsShaped ts
shapes_between text from to [] cut = All-nil IsShaped
shapes_between text from to (t ∷ ts) cut = All-cons IsShaped t ts (shaped text t cut.1) (shapes_between text (end_of t) to ts cut.2)

pub cut_shapes : (text : List ℕ) (ts : List Token) → Cuts text ts → All IsShaped ts
cut_shapes text ts cut = shapes_between text 0 (length text) ts cut
