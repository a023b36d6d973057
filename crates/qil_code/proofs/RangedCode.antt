-- The code of a function of a program, by number: its slots and blocks are there, and its lists are short.
use Rattle.std.proofs.Common.{◌≡◌, sym, subst, ℕ, ◌<◌, List, ◌++◌, length, Bor, Option, Some, None}
use Rattle.std.specs.Prelude.{map, IfSome, slice_get}
use Rattle.std.specs.Option.{option_copied}
use Rattle.std.specs.List.{All, flat_map}
use Rattle.std.proofs.lemmas.List.{length-map}
use Rattle.std.proofs.lemmas.List.Elements.{All-map}
use Rattle.std.proofs.lemmas.Option.{slice_get_within, get_or_from_slice_get, slice_get-get_or}
use Rattle.qil_tree.specs.declared.tree.Block.{Block}
use Rattle.qil_tree.specs.declared.tree.Func.{Func}
use Rattle.qil_tree.specs.declared.tree.Program.{Program}
use Rattle.qil_tree.specs.Trees.{HasBlock, HasBlocks}
use Rattle.qil_semantics.specs.State.{Name}
use Rattle.qil_semantics.specs.Names.{block_names, temps_named}
use Rattle.qil_code.specs.declared.numbered.NumberedBlock.{NumberedBlock}
use Rattle.qil_code.specs.declared.numbered.FuncCode.{FuncCode}
use Rattle.qil_code.specs.Facts.{jump_labels, KnowsLabels}
use Rattle.qil_code.specs.Gather.{labels_in, param_names}
use Rattle.qil_code.specs.Numbered.{block_of, func_of, func_code, func_at, names_of}
use Rattle.qil_code.specs.Reading.{func_code_at, labels_at, IsShortCode}
use Rattle.qil_code.specs.Ranges.{BlockInRange, FuncInRange, BlockIsShort, FuncIsShort}
use Rattle.qil_code.proofs.FactsNames.{mapped_at}
use Rattle.qil_code.proofs.Has.{HasAll, HasAll-left, HasAll-right, once-has, all-among}
use Rattle.qil_code.proofs.NamedCode.{block-has}
use Rattle.qil_code.proofs.Ranged.{block-range, params-range}
use Rattle.qil_code.proofs.Readers.{IsCoded, coded, temps-there, labels-there}

-- what holds of all elements holds of the one at a place
pub all_at : {X : Type 0} (P : X → Type 0) (xs : List X) (i : ℕ) (x : X) → slice_get xs i ≡ Some x → All P xs → P x
all_at P xs i x at all = subst P (get_or_from_slice_get xs i x x at) (all i x (slice_get_within xs i x at))

pub all_copied : {X : Type 0} (P : X → Type 0) (o : Option (Bor X)) (xs : List X) (i : ℕ) → option_copied o ≡ slice_get xs i → All P xs → IfSome o (λ x. P x.now)
all_copied P None xs i at all = tt
all_copied P (Some x) xs i at all = all_at P xs i x.now (sym at) all

-- ---- the names of a function

abbrev all_names : {A : Type 0} → Func A → List Name
all_names f = flat_map block_names f.blocks

func_has : {A : Type 0} (f : Func A) → HasAll (temps_named f) (param_names f.params ++ all_names f)
func_has f = once-has (param_names f.params ++ all_names f)

-- ---- its blocks

blocks_range : {A : Type 0} (p : Program A) (i : ℕ) (f : Func A) → KnowsLabels p → func_at p i ≡ Some f → All BlockIsShort (map (block_of p f.blocks (temps_named f)) f.blocks)
    → (j : ℕ) (b : Block A) → slice_get f.blocks j ≡ Some b → BlockInRange (length (temps_named f)) (length (labels_in f.blocks)) (block_of p f.blocks (temps_named f) b)
blocks_range p i f knows there short j b at =
    let ns = temps_named f in
    let ls = labels_in f.blocks in
    block-range p f.blocks ns b (HasAll-right ns (param_names f.params) (all_names f) (func_has f)) (block-has f j b at)
    (all-among ls (jump_labels b.jump.kind) (λ l. knows.known i f j b l there at))
    (all_at BlockIsShort (map (block_of p f.blocks ns) f.blocks) j (block_of p f.blocks ns b) (mapped_at (block_of p f.blocks ns) f.blocks j b at) short)

func_range : {A : Type 0} (p : Program A) (i : ℕ) (f : Func A) → HasBlock f → KnowsLabels p → func_at p i ≡ Some f → FuncIsShort (func_code p f) → FuncInRange (func_code p f)
unfolding func_code func_of
func_range p i f block knows there short =
    let ns = temps_named f in
    let ls = labels_in f.blocks in
    record {
      params = params-range ns f.params (HasAll-left ns (param_names f.params) (all_names f) (func_has f));
      blocks = subst (λ n. 0 < n) (sym (length-map f.blocks (block_of p f.blocks ns))) block;
      each = All-map (BlockInRange (length ns) (length ls)) (block_of p f.blocks ns) f.blocks
          (λ j d lt. blocks_range p i f knows there short j _ (slice_get-get_or f.blocks j d lt));
    }

-- ---- by number

pub func-range : {A : Type 0} (p : Program A) (i : ℕ) (k : FuncCode A) → HasBlocks p → KnowsLabels p → IsShortCode p → IsCoded p i k → FuncInRange k
func-range p i k blocks knows short d =
    subst FuncInRange (sym d.is)
    (func_range p i d.func (all_at HasBlock p.funcs i d.func d.there blocks) knows d.there
    (all_at FuncIsShort (map (func_code p) p.funcs) i (func_code p d.func) (mapped_at (func_code p) p.funcs i d.func d.there) short))

pub func-ranges : {A : Type 0} (p : Program A) (i : ℕ) (r : Option (Bor (FuncCode A))) → HasBlocks p → KnowsLabels p → IsShortCode p → option_copied r ≡ func_code_at p i → IfSome r (λ k. FuncInRange k.now)
func-ranges p i None blocks knows short at = tt
func-ranges p i (Some k) blocks knows short at = func-range p i k.now blocks knows short (coded p i k.now at)

pub block-ranges : {A : Type 0} (p : Program A) (i j : ℕ) (k : FuncCode A) (r : Option (Bor (NumberedBlock A))) (bs : List (NumberedBlock A)) → IsCoded p i k → FuncInRange k
    → bs ≡ k.code.blocks → option_copied r ≡ slice_get bs j → IfSome r (λ b. BlockInRange (length (names_of p i)) (length (labels_at p i)) b.now)
block-ranges p i j k r bs d range is at =
    all_copied (BlockInRange (length (names_of p i)) (length (labels_at p i))) r bs j at
    (subst (λ ns. All (BlockInRange (length ns) (length (labels_at p i))) bs) (temps-there p i k d)
    (subst (λ ls. All (BlockInRange (length k.temps) (length ls)) bs) (labels-there p i k d)
    (subst (λ xs. All (BlockInRange (length k.temps) (length k.labels)) xs) (sym is) range.each)))
