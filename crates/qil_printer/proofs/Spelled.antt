-- What tokens of a text spell can be written.
use Rattle.std.proofs.Common.{◌≡◌, ℕ, ◌-◌, ◌%◌, ◌<◌, ◌≤◌, ◌^◌, Bool, true, false, cond, eqb, MatchBool, List, [], ◌∷◌, ◌++◌, drop, Option, Some, None, refl, subst, inl, inr, arith}
use Rattle.std.proofs.Math.Nat.{mod-lt}
use Rattle.qil_lexer.specs.declared.token.TokenKind.{TokenKind}
use Rattle.qil_lexer.specs.declared.token.TokenKind.TheVariants as kinds
use Rattle.qil_lexer.specs.Shape.{decimal, number_value, IsName, IsInRange, HasShape}
use Rattle.qil_language.specs.Language.{One, Nothing, Seq, Image, Either, Many, Tail}
use Rattle.qil_parser.specs.declared.terminal.Terminal.{Terminal}
use Rattle.qil_parser.specs.declared.terminal.Terminal.TheVariants as terminals
use Rattle.qil_tree.specs.declared.tree.Operand.{Operand}
use Rattle.qil_tree.specs.declared.tree.Operand.TheVariants as operands
use Rattle.qil_tree.specs.declared.tree.Inst.{Inst}
use Rattle.qil_tree.specs.declared.tree.JumpKind.TheVariants as jump_kinds
use Rattle.qil_parser.specs.Token.{Tok}
use Rattle.qil_parser.specs.Grammar.{WordLine, temp_at, label_at, operand_at, is_signed, count_at, Word, TempName, LabelName, ClassWord, TypeWord, Val, Count, Two, After, Before, list_of, Listed}
use Rattle.qil_parser.specs.Functions.{UnaryWord, BinaryWord, CompareWord, ExtendWord, LoadWord, AllocWord, StoreWord, Dest, TargetOf, target_of, result_of, ResultOf, unary_of, binary_of, compare_of, extend_of, load_of, ExprOf, argument_of, ArgumentOf, Callee, assign_of, alloc_of, call_of, plain_call_of, store_of, blit_of, Plain, InstOf, source_of, SourceOf, Sources, phi_of, PhiOf, jmp_of, jnz_of, ret_of, hlt_of, JumpOf}
use Rattle.qil_printer.proofs.Writes.{AllOf}
use Rattle.qil_printer.proofs.Writable.{GoodOperand, GoodTwo, GoodTarget, GoodExpr, GoodArgument, GoodKind, GoodSource, GoodSources, GoodPhi, GoodJump}

-- ---- tokens of a text

pub record IsShapedTok (t : Tok) : Type 0 where
  pub shape : HasShape t.kind t.text
  pub in_range : t.kind ≡ kinds.Number → IsInRange t.text

left_shaped : (p q : List Tok) → AllOf IsShapedTok (p ++ q) → AllOf IsShapedTok p
left_shaped [] q h = tt
left_shaped (t ∷ p) q h = (h.0, left_shaped p q h.1)

right_shaped : (p q : List Tok) → AllOf IsShapedTok (p ++ q) → AllOf IsShapedTok q
right_shaped [] q h = h
right_shaped (t ∷ p) q h = right_shaped p q h.1

-- what shaped tokens of a text represent in a language has a property
abbrev pub Yields : {A : Type 0} → (List Tok → A → Type 0) → (A → Type 0) → Type 0
Yields S P = (ts : List Tok) (v : _) → AllOf IsShapedTok ts → S ts v → P v

moved : (ts us : List Tok) → ts ≡ us → AllOf IsShapedTok ts → AllOf IsShapedTok us
moved ts us e h = subst (AllOf IsShapedTok) e h

abbrev pub Any : {A : Type 0} → A → Type 0
Any v = Unit {0}

pub yields_any : {A : Type 0} (S : List Tok → A → Type 0) → Yields S Any
yields_any S ts v h s = tt

yields_one : {A : Type 0} (f : Tok → Option A) (P : A → Type 0) → ((t : Tok) (a : A) → IsShapedTok t → f t ≡ Some a → P a) → Yields (One f) P
yields_one f P g ts v h s = g s.token v (moved ts (s.token ∷ []) s.alone h).0 s.means

pub yields_seq : {A B : Type 0} {S : List Tok → A → Type 0} {U : List Tok → B → Type 0} {P : A → Type 0} {Q : B → Type 0} → Yields S P → Yields U Q → Yields (Seq S U) (λ v. P v.0 × Q v.1)
yields_seq f g ts v h s =
    let k = moved ts (s.left ++ s.right) s.parts h in
    (f s.left v.0 (left_shaped s.left s.right k) s.first, g s.right v.1 (right_shaped s.left s.right k) s.second)

pub yields_image : {A B : Type 0} {S : List Tok → A → Type 0} {P : A → Type 0} (f : A → B) (Q : B → Type 0) → Yields S P → ((a : A) → P a → Q (f a)) → Yields (Image f S) Q
yields_image f Q g h ts v k s = subst Q s.made (h s.value (g ts s.value k s.spelled))

pub yields_either : {A : Type 0} {S U : List Tok → A → Type 0} {P : A → Type 0} → Yields S P → Yields U P → Yields (Either S U) P
yields_either f g ts v h (inl s) = f ts v h s
yields_either f g ts v h (inr s) = g ts v h s

pub yields_nothing : {A : Type 0} (x : A) (P : A → Type 0) → P x → Yields (Nothing x) P
yields_nothing x P p ts v h s = subst P s.value p

pub yields_many : {A : Type 0} (S : List Tok → A → Type 0) (P : A → Type 0) → Yields S P → Yields (Many S) (AllOf P)
yields_many S P f ts [] h s = tt
yields_many S P f ts (a ∷ others) h s =
    let k = moved ts (s.0 ++ s.1) s.2 h in
    (f s.0 a (left_shaped s.0 s.1 k) s.3, yields_many S P f s.1 others (right_shaped s.0 s.1 k) s.4)

yields_tail : {A : Type 0} (C : List Tok → Unit {0} → Type 0) (S : List Tok → A → Type 0) (P : A → Type 0) → Yields S P → Yields (Tail C S) (AllOf P)
yields_tail C S P f ts [] h s = tt
yields_tail C S P f ts (a ∷ others) h s =
    let k = right_shaped s.0 (s.1 ++ s.2) (moved ts (s.0 ++ (s.1 ++ s.2)) s.3 h) in
    (f s.1 a (left_shaped s.1 s.2 k) s.5, yields_tail C S P f s.2 others (right_shaped s.1 s.2 k) s.6)

pub yields_before : {A : Type 0} {S : List Tok → A → Type 0} (m : Terminal) (P : A → Type 0) → Yields S P → Yields (Before S m) P
yields_before m P f = yields_image (λ v. v.0) P (yields_seq f (yields_any (Word m))) (λ a q. q.0)

pub yields_after : {A : Type 0} {S : List Tok → A → Type 0} (m : Terminal) (P : A → Type 0) → Yields S P → Yields (After m S) P
yields_after m P f = yields_image (λ v. v.1) P (yields_seq (yields_any (Word m)) f) (λ a q. q.1)

-- ---- names and numbers

known_is : {A : Type 0} (x y : A) → Some x ≡ Some y → x ≡ y
known_is x y e = cc

named : (kind : TokenKind) (text : List ℕ) (P : List ℕ → Type 0) → HasShape kind text → ((b : ℕ) (tail : List ℕ) → text ≡ b ∷ tail → HasShape kind (b ∷ tail) → P tail) → P (drop 1 text)
named kind [] P shape f = absurd shape
named kind (b ∷ tail) P shape f = f b tail refl shape

temp_good : (kind : TokenKind) (text : List ℕ) (line : ℕ) (a : ℕ × List ℕ) → HasShape kind text → temp_at kind text line ≡ Some a → IsName a.1
temp_good kinds.Temp text line a shape e = subst (λ (v : ℕ × List ℕ). IsName v.1) (known_is (line, drop 1 text) a e) (named kinds.Temp text IsName shape (λ b tail same s. s.1))
temp_good _ text line a shape e = absurd cc

label_good : (kind : TokenKind) (text : List ℕ) (line : ℕ) (a : ℕ × List ℕ) → HasShape kind text → label_at kind text line ≡ Some a → IsName a.1
label_good kinds.Label text line a shape e = subst (λ (v : ℕ × List ℕ). IsName v.1) (known_is (line, drop 1 text) a e) (named kinds.Label text IsName shape (λ b tail same s. s.1))
label_good _ text line a shape e = absurd cc

value_at : (b : Bool) (d n : ℕ) → MatchBool b (d ≤ 2 ^ 63) (n < 2 ^ 64) → cond b ((2 ^ 64 - d) % 2 ^ 64) n < 2 ^ 64
value_at true d n h = mod-lt (2 ^ 64 - d) (omega arith)
value_at false d n h = h

value_fits : (text : List ℕ) → IsInRange text → number_value text < 2 ^ 64
value_fits [] h = absurd h
value_fits (b ∷ digits) h = value_at (eqb b 45) (decimal digits) (decimal (b ∷ digits)) h

operand_good : (kind : TokenKind) (text : List ℕ) (a : Operand) → HasShape kind text → (kind ≡ kinds.Number → IsInRange text) → operand_at kind text ≡ Some a → GoodOperand a
operand_good kinds.Number text a shape range e = subst GoodOperand (known_is (operands.Number (number_value text)) a e) (value_fits text (range refl))
operand_good kinds.Global text a shape range e = subst GoodOperand (known_is (operands.Global (drop 1 text)) a e) (named kinds.Global text IsName shape (λ b tail same s. s.1))
operand_good kinds.Temp text a shape range e = subst GoodOperand (known_is (operands.Temp (drop 1 text)) a e) (named kinds.Temp text IsName shape (λ b tail same s. s.1))
operand_good _ text a shape range e = absurd cc

unsigned_value : (b : Bool) (n a : ℕ) → n < 2 ^ 64 → cond b None (Some n) ≡ Some a → a < 2 ^ 64
unsigned_value true n a lt e = absurd cc
unsigned_value false n a lt e = subst (λ (k : ℕ). k < 2 ^ 64) (known_is n a e) lt

count_good : (kind : TokenKind) (text : List ℕ) (a : ℕ) → (kind ≡ kinds.Number → IsInRange text) → count_at kind text ≡ Some a → a < 2 ^ 64
count_good kinds.Number text a range e = unsigned_value (is_signed text) (number_value text) a (value_fits text (range refl)) e
count_good _ text a range e = absurd cc

yields_temp : Yields TempName (λ v. IsName v.1)
yields_temp = yields_one (λ t. temp_at t.kind t.text t.line) (λ v. IsName v.1) (λ t a h e. temp_good t.kind t.text t.line a h.shape e)

pub yields_label : Yields LabelName (λ v. IsName v.1)
yields_label = yields_one (λ t. label_at t.kind t.text t.line) (λ v. IsName v.1) (λ t a h e. label_good t.kind t.text t.line a h.shape e)

yields_val : Yields Val GoodOperand
yields_val = yields_one (λ t. operand_at t.kind t.text) GoodOperand (λ t a h e. operand_good t.kind t.text a h.shape h.in_range e)

yields_count : Yields Count (λ n. n < 2 ^ 64)
yields_count = yields_one (λ t. count_at t.kind t.text) (λ n. n < 2 ^ 64) (λ t a h e. count_good t.kind t.text a h.in_range e)

yields_two : Yields Two GoodTwo
yields_two = yields_seq (yields_before terminals.Comma GoodOperand yields_val) yields_val

-- ---- instructions

yields_dest : Yields Dest (λ v. IsName v.1)
yields_dest = yields_before terminals.Equals (λ v. IsName v.1) yields_temp

yields_target : Yields TargetOf (λ v. GoodTarget v.1)
yields_target = yields_image target_of (λ v. GoodTarget v.1) (yields_seq yields_dest (yields_any ClassWord)) (λ a q. q.0)

yields_result : Yields ResultOf (λ v. IsName v.1.name)
yields_result = yields_image result_of (λ v. IsName v.1.name) (yields_seq yields_dest (yields_any TypeWord)) (λ a q. q.0)

yields_expr : Yields ExprOf GoodExpr
yields_expr = yields_either (yields_image unary_of GoodExpr (yields_seq (yields_any UnaryWord) yields_val) (λ a q. q.1))
    (yields_either (yields_image binary_of GoodExpr (yields_seq (yields_any BinaryWord) yields_two) (λ a q. q.1))
    (yields_either (yields_image compare_of GoodExpr (yields_seq (yields_any CompareWord) yields_two) (λ a q. q.1))
    (yields_either (yields_image extend_of GoodExpr (yields_seq (yields_any ExtendWord) yields_val) (λ a q. q.1))
    (yields_image load_of GoodExpr (yields_seq (yields_any LoadWord) yields_val) (λ a q. q.1)))))

yields_argument : Yields ArgumentOf GoodArgument
yields_argument = yields_image argument_of GoodArgument (yields_seq (yields_any TypeWord) yields_val) (λ a q. q.1)

yields_arguments : Yields (Listed ArgumentOf) (AllOf GoodArgument)
yields_arguments = yields_either (yields_image list_of (AllOf GoodArgument) (yields_seq yields_argument (yields_tail (Word terminals.Comma) ArgumentOf GoodArgument yields_argument)) (λ a q. q)) (yields_nothing [] (AllOf GoodArgument) tt)

yields_callee : Yields Callee (λ v. GoodOperand v.0 × AllOf GoodArgument v.1)
yields_callee = yields_seq yields_val (yields_after terminals.OpenParen (AllOf GoodArgument) (yields_before terminals.CloseParen (AllOf GoodArgument) yields_arguments))

abbrev GoodInst : {A : Type 0} → Inst A → Type 0
GoodInst i = GoodKind i.kind

yields_plain : {A : Type 0} → Yields (Plain {A = A}) GoodInst
yields_plain = yields_either (yields_image store_of GoodInst (yields_seq (yields_any StoreWord) yields_two) (λ a q. q.1))
    (yields_either (yields_image blit_of GoodInst (yields_seq (yields_any (WordLine terminals.Blit)) (yields_seq (yields_before terminals.Comma GoodTwo yields_two) yields_count)) (λ a q. (q.1.0.0, q.1.0.1, q.1.1)))
    (yields_image plain_call_of GoodInst (yields_seq (yields_any (WordLine terminals.Call)) yields_callee) (λ a q. (tt, q.1.0, q.1.1))))

pub yields_inst : {A : Type 0} → Yields (InstOf {A = A}) (λ i. GoodKind i.kind)
yields_inst = yields_either (yields_image assign_of GoodInst (yields_seq yields_target yields_expr) (λ a q. q))
    (yields_either (yields_image alloc_of GoodInst (yields_seq yields_target (yields_seq (yields_any AllocWord) yields_val)) (λ a q. (q.0, q.1.1)))
    (yields_either (yields_image call_of GoodInst (yields_seq yields_result (yields_after terminals.Call (λ v. GoodOperand v.0 × AllOf GoodArgument v.1) yields_callee)) (λ a q. (q.0, q.1.0, q.1.1))) yields_plain))

-- ---- phis and jumps

yields_source : Yields SourceOf GoodSource
yields_source = yields_image source_of GoodSource (yields_seq yields_label yields_val) (λ a q. q)

yields_sources : Yields Sources GoodSources
yields_sources = yields_after terminals.Phi GoodSources (yields_image list_of GoodSources (yields_seq yields_source (yields_many (After terminals.Comma SourceOf) GoodSource (yields_after terminals.Comma GoodSource yields_source))) (λ a q. q))

pub yields_phi : {A : Type 0} → Yields (PhiOf {A = A}) GoodPhi
yields_phi = yields_image phi_of GoodPhi (yields_seq yields_target yields_sources) (λ a q. q)

abbrev PerhapsGood : Option Operand → Type 0
PerhapsGood None = Unit {0}
PerhapsGood (Some o) = GoodOperand o

ret_good : (v : ℕ × Option Operand) → PerhapsGood v.1 → GoodJump (ret_of v).kind
ret_good v h = go v.1 h
  where
    go : (o : Option Operand) → PerhapsGood o → GoodJump (jump_kinds.Ret o)
    go None k = tt
    go (Some a) k = k

pub yields_jump : Yields JumpOf (λ j. GoodJump j.kind)
yields_jump = yields_either (yields_image jmp_of (λ j. GoodJump j.kind) (yields_seq (yields_any (WordLine terminals.Jmp)) yields_label) (λ a q. q.1))
    (yields_either (yields_image jnz_of (λ j. GoodJump j.kind) (yields_seq (yields_any (WordLine terminals.Jnz)) (yields_seq (yields_before terminals.Comma GoodOperand yields_val) (yields_seq (yields_before terminals.Comma (λ v. IsName v.1) yields_label) yields_label))) (λ a q. (q.1.0, q.1.1.0, q.1.1.1)))
    (yields_either (yields_image ret_of (λ j. GoodJump j.kind) (yields_seq (yields_any (WordLine terminals.Ret)) (yields_either (yields_image Some PerhapsGood yields_val (λ a q. q)) (yields_nothing None PerhapsGood tt))) (λ a q. ret_good a q.1))
    (yields_image hlt_of (λ j. GoodJump j.kind) (yields_any (WordLine terminals.Hlt)) (λ a q. tt))))
