-- When a program is well-formed, and which rule it breaks first where it is not.
use Rattle.std.specs.Prelude.{◌≡◌, ◌≢◌, ℕ, ◌<◌, ◌⊎◌, Bool, true, false, ◌||◌, List, [], ◌∷◌, length, take, Option, Some, None, option_map, slice_get, All, AllPairs, codes}
use Rattle.std.specs.Str.{bytes_eq}
use Rattle.std.specs.List.{count_by}
use Rattle.qil_tree.specs.declared.ops.Class.{Class}
use Rattle.qil_tree.specs.declared.ops.Class.TheVariants as classes
use Rattle.qil_tree.specs.declared.tree.PhiSource.{PhiSource}
use Rattle.qil_tree.specs.declared.tree.Program.{Program}
use Rattle.qil_rules.specs.declared.rule.Rule.{Rule}
use Rattle.qil_rules.specs.declared.rule.Rule.TheVariants.{C1, C2, C3, C4, C5, C6, C7, C8, C9, C10, C11, C12}
use Rattle.qil_rules.specs.Occurrences.{OccurrenceKind, Occurrence, FunctionName, Label, Edge, PhiLabel, PhiOf, Defines, Uses, Global, Returns, Long, texts}
use Rattle.qil_rules.specs.Text.{IsAt, Names, FirstClass, IsUndefined, IsTemporary, LacksLabel, IsFirstLabel, ArePredecessors, labels_of}

-- ---- the rules of one text: what breaks them at a place

-- a label is that of an earlier block
abbrev pub IsSecondLabel : List Occurrence → ℕ → Type 0
IsSecondLabel text k = (x : List ℕ) × (j : ℕ) × (j < k) × IsAt text j (Label x) × IsAt text k (Label x)

-- a jump or a phi names a label that its function lacks
abbrev pub IsLostLabel : List Occurrence → ℕ → Type 0
IsLostLabel text k = (x : List ℕ) × (((from : List ℕ) × IsAt text k (Edge from x)) ⊎ IsAt text k (PhiLabel x)) × LacksLabel text x

-- a jump names the function's first block
abbrev pub IsJumpToFirst : List Occurrence → ℕ → Type 0
IsJumpToFirst text k = (x : List ℕ) × (from : List ℕ) × IsAt text k (Edge from x) × IsFirstLabel text x

-- a definition has another class than the first of its temporary
abbrev pub IsOtherClass : List Occurrence → ℕ → Type 0
IsOtherClass text k = (x : List ℕ) × (c : Class) × (d : Class) × IsAt text k (Defines x c) × FirstClass text x d × (c ≢ d)

-- a temporary is used and has no definition
abbrev pub IsUndefinedUse : List Occurrence → ℕ → Type 0
IsUndefinedUse text k = (x : List ℕ) × (c : Class) × IsAt text k (Uses x c) × IsUndefined text x

-- a `w` temporary stands in an `l` context
abbrev pub IsNarrowUse : List Occurrence → ℕ → Type 0
IsNarrowUse text k = (x : List ℕ) × IsAt text k (Uses x classes.L) × FirstClass text x classes.W

-- the labels of a phi are not exactly the predecessors of its block, each once
abbrev pub IsWrongPhi : List Occurrence → ℕ → Type 0
IsWrongPhi text k = (b : List ℕ) × (sources : List PhiSource) × IsAt text k (PhiOf b sources) × (ArePredecessors text b (labels_of sources) → ⊥)

-- a value is returned where the function has no return type
abbrev pub IsUntypedReturn : List Occurrence → ℕ → Type 0
IsUntypedReturn text k = IsAt text k (Returns None)

-- a result that is always long has type `w`
abbrev pub IsNarrowResult : List Occurrence → ℕ → Type 0
IsNarrowResult text k = IsAt text k (Long classes.W)

-- ---- the rules that look at other texts of the program

-- the n-th definition has that name
abbrev pub HasName : List (List Occurrence) → ℕ → List ℕ → Type 0
HasName all n x = (text : List Occurrence) × (slice_get all n ≡ Some text) × Names text 0 x

-- a definition before the n-th has that name
abbrev pub IsNamedBefore : List (List Occurrence) → ℕ → List ℕ → Type 0
IsNamedBefore all n x = (m : ℕ) × (m < n) × HasName all m x

-- a definition has the name of an earlier one
abbrev pub IsSecondName : List (List Occurrence) → List Occurrence → ℕ → ℕ → Type 0
IsSecondName all text n k = (x : List ℕ) × Names text k x × IsNamedBefore all n x

-- the functions that every program has
abbrev pub is_built_in : List ℕ → Bool
is_built_in g = bytes_eq g (codes "putchar") || (bytes_eq g (codes "puts") || bytes_eq g (codes "exit"))

-- no definition has that name, and it is not built in
abbrev pub IsUnknown : List (List Occurrence) → List ℕ → Type 0
IsUnknown all g = ((m : ℕ) → HasName all m g → ⊥) × (is_built_in g ≡ false)

-- a global is used that is neither defined nor built in
abbrev pub IsLostGlobal : List (List Occurrence) → List Occurrence → ℕ → Type 0
IsLostGlobal all text k = (g : List ℕ) × IsAt text k (Global g) × IsUnknown all g

-- more than 65,535 temporaries
abbrev pub HasManyTemporaries : List Occurrence → Type 0
HasManyTemporaries text = (names : List (List ℕ)) × AllPairs (λ x y. x ≢ y) names × All (IsTemporary text) names × (65535 < length names)

abbrev pub begins_block : OccurrenceKind → Bool
begins_block (Label x) = true
begins_block what = false

abbrev pub is_label : Occurrence → Bool
is_label m = begins_block m.what

-- more than 65,535 blocks
abbrev pub HasManyBlocks : List Occurrence → Type 0
HasManyBlocks text = 65535 < count_by is_label text

abbrev pub begins_function : OccurrenceKind → Bool
begins_function (FunctionName x) = true
begins_function what = false

abbrev pub is_function : List Occurrence → Bool
is_function [] = false
is_function (m ∷ text) = begins_function m.what

-- a function that has too many temporaries or blocks, or is the 1,001st
abbrev pub IsTooMuch : List (List Occurrence) → List Occurrence → ℕ → ℕ → Type 0
IsTooMuch all text n k =
    (x : List ℕ) × IsAt text k (FunctionName x) × (HasManyTemporaries text ⊎ (HasManyBlocks text ⊎ (count_by is_function (take n all) ≡ 1000)))

-- ---- all rules

-- the n-th text of the program breaks the rule at a place
abbrev pub Breaks : Rule → List (List Occurrence) → List Occurrence → ℕ → ℕ → Type 0
Breaks C1 all text n k = IsSecondName all text n k
Breaks C2 all text n k = IsSecondLabel text k
Breaks C3 all text n k = IsLostLabel text k
Breaks C4 all text n k = IsJumpToFirst text k
Breaks C5 all text n k = IsOtherClass text k
Breaks C6 all text n k = IsUndefinedUse text k
Breaks C7 all text n k = IsNarrowUse text k
Breaks C8 all text n k = IsWrongPhi text k
Breaks C9 all text n k = IsLostGlobal all text k
Breaks C10 all text n k = IsUntypedReturn text k
Breaks C11 all text n k = IsNarrowResult text k
Breaks C12 all text n k = IsTooMuch all text n k

-- the lower rule is answered before the higher
abbrev pub order : Rule → ℕ
order C1 = 1
order C2 = 2
order C3 = 3
order C4 = 4
order C5 = 5
order C6 = 6
order C7 = 7
order C8 = 8
order C9 = 9
order C10 = 10
order C11 = 11
order C12 = 12

-- a place: a text of the program, and an occurrence in it
pub record Place : Type 0 where
  pub text : ℕ
  pub occurrence : ℕ

abbrev pub IsEarlier : Place → Place → Type 0
IsEarlier p q = (p.text < q.text) ⊎ ((p.text ≡ q.text) × (p.occurrence < q.occurrence))

abbrev pub BreaksAt : Rule → List (List Occurrence) → Place → Type 0
BreaksAt rule all at = (text : List Occurrence) × (slice_get all at.text ≡ Some text) × Breaks rule all text at.text at.occurrence

abbrev pub line_at : List Occurrence → ℕ → Option ℕ
line_at text k = option_map (λ m. m.line) (slice_get text k)

-- no place breaks the rule
abbrev pub IsKept : Rule → List (List Occurrence) → Type 0
IsKept rule all = (at : Place) → BreaksAt rule all at → ⊥

-- the rule is broken at a place of that line, and at no earlier one
pub record IsBrokenFirst (rule : Rule) (all : List (List Occurrence)) (line : ℕ) : Type 0 where
  pub at : Place
  pub text : List Occurrence
  pub is_text : slice_get all at.text ≡ Some text
  pub breaks : Breaks rule all text at.text at.occurrence
  pub first : (before : Place) → IsEarlier before at → BreaksAt rule all before → ⊥
  pub line_is : line_at text at.occurrence ≡ Some line

-- no rule is broken
abbrev pub AreWellFormed : List (List Occurrence) → Type 0
AreWellFormed all = (rule : Rule) → IsKept rule all

-- the lowest rule that is broken anywhere, at its first place
abbrev pub AreBroken : List (List Occurrence) → Rule → ℕ → Type 0
AreBroken all rule line = IsBrokenFirst rule all line × ((lower : Rule) → order lower < order rule → IsKept lower all)

abbrev pub WellFormed : {A : Type 0} → Program A → Type 0
WellFormed p = AreWellFormed (texts p)

abbrev pub Broken : {A : Type 0} → Program A → Rule → ℕ → Type 0
Broken p rule line = AreBroken (texts p) rule line
