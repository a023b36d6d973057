-- Places in a text: what stands there, and what a text says of a name.
use Rattle.std.specs.Prelude.{◌≡◌, ℕ, ◌<◌, ◌⊎◌, ◌↔◌, List, Some, option_map, slice_get, map}
use Rattle.qil_tree.specs.declared.ops.Class.{Class}
use Rattle.qil_tree.specs.declared.tree.PhiSource.{PhiSource}
use Rattle.qil_rules.specs.Occurrences.{OccurrenceKind, Occurrence, DataName, FunctionName, Label, Edge, Defines, Uses}

-- at this place of the text stands this
abbrev pub IsAt : List Occurrence → ℕ → OccurrenceKind → Type 0
IsAt text k what = option_map (λ m. m.what) (slice_get text k) ≡ Some what

-- a definition of that global name begins there
abbrev pub Names : List Occurrence → ℕ → List ℕ → Type 0
Names text k x = IsAt text k (DataName x) ⊎ IsAt text k (FunctionName x)

-- ---- temporaries

-- the class of the first definition
abbrev pub FirstClass : List Occurrence → List ℕ → Class → Type 0
FirstClass text x c = (j : ℕ) × IsAt text j (Defines x c) × ((i : ℕ) (d : Class) → i < j → IsAt text i (Defines x d) → ⊥)

abbrev pub IsUndefined : List Occurrence → List ℕ → Type 0
IsUndefined text x = (j : ℕ) (c : Class) → IsAt text j (Defines x c) → ⊥

-- a definition that is not the first of its temporary
abbrev pub IsAgain : List Occurrence → ℕ → List ℕ → Type 0
IsAgain text k x = (j : ℕ) × (c : Class) × (d : Class) × (j < k) × IsAt text j (Defines x d) × IsAt text k (Defines x c)

-- a temporary that the text defines or uses
abbrev pub IsTemporary : List Occurrence → List ℕ → Type 0
IsTemporary text x = (k : ℕ) × (c : Class) × (IsAt text k (Defines x c) ⊎ IsAt text k (Uses x c))

-- ---- blocks

abbrev pub LacksLabel : List Occurrence → List ℕ → Type 0
LacksLabel text x = (j : ℕ) → IsAt text j (Label x) → ⊥

-- the label of the first block
abbrev pub IsFirstLabel : List Occurrence → List ℕ → Type 0
IsFirstLabel text x = (j : ℕ) × IsAt text j (Label x) × ((i : ℕ) (y : List ℕ) → i < j → IsAt text i (Label y) → ⊥)

-- control may go from block l to block b
abbrev pub IsPredecessor : List Occurrence → List ℕ → List ℕ → Type 0
IsPredecessor text b l = (j : ℕ) × IsAt text j (Edge l b)

-- no name stands twice in a list
abbrev pub AreDistinct : List (List ℕ) → Type 0
AreDistinct xs = (i j : ℕ) (x : List ℕ) → slice_get xs i ≡ Some x → slice_get xs j ≡ Some x → i ≡ j

abbrev pub IsAmong : List ℕ → List (List ℕ) → Type 0
IsAmong x xs = (i : ℕ) × (slice_get xs i ≡ Some x)

-- the labels are the block's predecessors, each once
abbrev pub ArePredecessors : List Occurrence → List ℕ → List (List ℕ) → Type 0
ArePredecessors text b labels = AreDistinct labels × ((l : List ℕ) → IsAmong l labels ↔ IsPredecessor text b l)

abbrev pub labels_of : List PhiSource → List (List ℕ)
labels_of sources = map (λ s. s.label) sources
