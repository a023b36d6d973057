-- What a table of names says: where each name of a kind stands first; the predecessors of each block.
use Rattle.std.specs.Prelude.{◌≡◌, ◌≢◌, ◌↔◌, ℕ, zero, suc, List, [], ◌∷◌, ◌++◌, Option, Some, None, Bool, false, if◌then◌else◌, slice_get}
use Rattle.std.specs.Str.{bytes_eq}
use Rattle.std.specs.Option.{option_or}
use Rattle.qil_checker.specs.declared.lookup.TableKind.{TableKind}
use Rattle.qil_rules.specs.declared.rule.Rule.{Rule}
use Rattle.qil_rules.specs.declared.rule.Rule.TheVariants.{C8}
use Rattle.qil_checker.specs.declared.lookup.TableKind.TheVariants.{Defined, Named, Labels}
use Rattle.qil_tree.specs.declared.tree.PhiSource.{PhiSource}
use Rattle.qil_rules.specs.declared.occurrence.OccurrenceKind.{OccurrenceKind}
use Rattle.qil_rules.specs.declared.occurrence.OccurrenceKind.TheVariants.{DataName, FunctionName, Label, Edge, PhiOf, Defines, Uses}
use Rattle.qil_rules.specs.declared.occurrence.Occurrence.{Occurrence}
use Rattle.indexmap.specs.IndexMap.{IndexMap, get_by}
use denote.Ref.{Bor}
use Rattle.qil_rules.specs.Text.{IsAt, AreDistinct, IsAmong}

-- the place that a map has for a name
abbrev pub place_in : {S : Type 0} → IndexMap (Bor (List ℕ)) ℕ S → List ℕ → Option ℕ
place_in m x = get_by (λ k. bytes_eq x k.now) m

-- the name that an occurrence brings to a table of this kind
abbrev pub named : OccurrenceKind → TableKind → Option (List ℕ)
named (Defines x c) Defined = Some x
named (Defines x c) Named = Some x
named (Uses x c) Named = Some x
named (Label x) Labels = Some x
named what kind = None

abbrev pub is_name : List ℕ → Option (List ℕ) → Bool
is_name x None = false
is_name x (Some y) = bytes_eq y x

abbrev pub is_named : TableKind → List ℕ → Occurrence → Bool
is_named kind x occurrence = is_name x (named occurrence.what kind)

-- the first place where a test passes, counted from n
abbrev pub first : {X : Type 0} → (X → Bool) → ℕ → List X → Option ℕ
first test n [] = None
first test n (a ∷ others) = if test a then Some n else first test (suc n) others

-- the global name that a definition begins with
abbrev pub begun_name : OccurrenceKind → Option (List ℕ)
begun_name (DataName x) = Some x
begun_name (FunctionName x) = Some x
begun_name what = None

abbrev pub head_name : List Occurrence → Option (List ℕ)
head_name [] = None
head_name (m ∷ text) = begun_name m.what

abbrev pub has_name : List ℕ → List Occurrence → Bool
has_name x text = is_name x (head_name text)

-- ---- names of a list

abbrev pub is : List ℕ → List ℕ → Bool
is x y = bytes_eq y x

-- each of the names has a place
abbrev pub AreKnown : List (List ℕ) → (List ℕ → Option ℕ) → Type 0
AreKnown xs place = (i : ℕ) (x : List ℕ) → slice_get xs i ≡ Some x → place x ≢ None

-- the names stand once each and are those of the other list
abbrev pub AreSameOnce : List (List ℕ) → List (List ℕ) → Type 0
AreSameOnce xs ys = AreDistinct xs × ((x : List ℕ) → IsAmong x xs ↔ IsAmong x ys)

-- ---- the predecessors of a block

abbrev pub predecessor : List ℕ → OccurrenceKind → List (List ℕ)
predecessor b (Edge l to) = if bytes_eq to b then l ∷ [] else []
predecessor b what = []

-- the labels of the blocks that go to a block, in the order of the text
abbrev pub predecessors_of : List ℕ → List Occurrence → List (List ℕ)
predecessors_of b [] = []
predecessors_of b (m ∷ text) = predecessor b m.what ++ predecessors_of b text

-- ---- labels on the way through a text

-- the label of the first block
abbrev pub begun_label : List Occurrence → Option (List ℕ)
begun_label [] = None
begun_label (m ∷ text) = option_or (named m.what Labels) (begun_label text)

-- the label of the block after an occurrence
abbrev pub behind : Option (List ℕ) → Occurrence → Option (List ℕ)
behind block m = option_or (named m.what Labels) block

-- the label of the block that a place stands in: the last one before it
abbrev pub block_from : Option (List ℕ) → List Occurrence → ℕ → Option (List ℕ)
block_from block text zero = block
block_from block [] (suc k) = block
block_from block (m ∷ text) (suc k) = block_from (behind block m) text k

abbrev pub block_at : List Occurrence → ℕ → Option (List ℕ)
block_at text k = block_from None text k

-- each phi stands in its block
abbrev pub AreAtHome : List Occurrence → Type 0
AreAtHome text = (k : ℕ) (x : List ℕ) (sources : List PhiSource) → IsAt text k (PhiOf x sources) → block_at text k ≡ Some x

-- the predecessors of the block that a place stands in
abbrev pub AreAtHand : List Occurrence → ℕ → List (List ℕ) → Type 0
AreAtHand text k labels = (x : List ℕ) → block_at text k ≡ Some x → labels ≡ predecessors_of x text

-- the same, for the one rule that asks for them
abbrev pub AreAtHandFor : Rule → List Occurrence → ℕ → List (List ℕ) → Type 0
AreAtHandFor rule text k labels = rule ≡ C8 → AreAtHand text k labels
