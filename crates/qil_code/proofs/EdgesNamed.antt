-- Where an edge leads and what it does, read back through names: its block is that of its label, and its moves are those of the phis there.
use Rattle.std.proofs.Common.{◌≡◌, ◌∙◌, refl, sym, ap, subst, ℕ, zero, suc, ◌<◌, ◌⊎◌, inl, inr, Bool, true, false, if◌then◌else◌, List, [], ◌∷◌, Option, Some, None}
use Rattle.std.specs.Prelude.{map, option_map, unwrap_or, slice_get, ◌==◌}
use Rattle.std.specs.Option.{option_and_then}
use Rattle.std.specs.List.{AllPairs, flat_map}
use Rattle.std.proofs.lemmas.Bool.{cases_order}
use Rattle.std.proofs.lemmas.Bool.Decides.{Decides-eqb}
use Rattle.std.proofs.lemmas.Option.{slice_get_within, get_or_from_slice_get}
use Rattle.qil_tree.specs.declared.tree.JumpKind.{JumpKind}
use Rattle.qil_tree.specs.declared.tree.JumpKind.TheVariants as jumps
use Rattle.qil_tree.specs.declared.tree.Block.{Block}
use Rattle.qil_tree.specs.declared.tree.Func.{Func}
use Rattle.qil_tree.specs.declared.tree.Program.{Program}
use Rattle.qil_rules.specs.Text.{IsAmong}
use Rattle.qil_symbols.specs.Numbers.{place_of, recorded}
use Rattle.qil_semantics.specs.State.{Name}
use Rattle.qil_semantics.specs.Names.{temps_named}
use Rattle.qil_semantics.specs.Step.{phi_moves, block_labelled}
use Rattle.qil_code.specs.declared.numbered.PhiMove.{PhiMove}
use Rattle.qil_code.specs.declared.numbered.Edge.{Edge}
use Rattle.qil_code.specs.declared.numbered.NumberedJump.{NumberedJump}
use Rattle.qil_code.specs.declared.numbered.NumberedJump.TheVariants as numbered_jumps
use Rattle.qil_code.specs.declared.numbered.NumberedBlock.{NumberedBlock}
use Rattle.qil_code.specs.Facts.{AreNumerable, Finds, KnowsLabels, NumbersBlocks, jump_labels}
use Rattle.qil_code.specs.Gather.{labels_in}
use Rattle.qil_code.specs.Slots.{name_at, number_in}
use Rattle.qil_code.specs.Numbered.{edge_of, jump_of, block_of, block_moves, moves_into, func_at, block_in, block_at, names_of, names_in}
use Rattle.qil_code.specs.Named.{named_move, resolved_move}
use Rattle.qil_code.specs.Reading.{labels_at, block_code_at, moves_to, moves_by, phis_at}
use Rattle.qil_code.proofs.FactsNames.{mapped_at}
use Rattle.qil_code.proofs.FactsTemps.{Differ, once-differ}
use Rattle.qil_code.proofs.Has.{Has, HasAll, has-among, name-at, name-number, all-among}
use Rattle.qil_code.proofs.NamedCode.{block-has}
use Rattle.qil_code.proofs.Once.{recorded-once}
use Rattle.qil_code.proofs.PhiMoves.{block-moves-named}
use Rattle.qil_code.proofs.Edges.{label-found}
use Rattle.qil_code.proofs.Readers.{func_at_numerable}

-- ---- an edge of a jump

abbrev pub IsEdgeOf : {A : Type 0} → Edge A → NumberedJump A → Type 0
IsEdgeOf e (numbered_jumps.Jmp f) = e ≡ f
IsEdgeOf e (numbered_jumps.Jnz a f g) = (e ≡ f) ⊎ (e ≡ g)
IsEdgeOf e (numbered_jumps.Ret a) = ⊥
IsEdgeOf e numbered_jumps.Hlt = ⊥

-- of function i: from the block of the label `left`
pub record EdgeNamed {A : Type 0} (p : Program A) (i : ℕ) (f : Func A) (left : Name) (e : Edge A) : Type 0 where
  pub target : Block A
  pub there : slice_get f.blocks e.to.index ≡ Some target
  pub found : block_labelled f.blocks (name_at (labels_at p i) e.to.index) ≡ Some target
  pub moves : map (named_move (names_of p i)) e.moves ≡ map (resolved_move p) (flat_map (phi_moves left) target.phis)

names_are : {A : Type 0} (p : Program A) (i : ℕ) (f : Func A) → func_at p i ≡ Some f → names_of p i ≡ temps_named f
unfolding names_of
names_are p i f there = ap (λ o. names_in o) there

labels_are : {A : Type 0} (p : Program A) (i : ℕ) (f : Func A) → func_at p i ≡ Some f → labels_at p i ≡ labels_in f.blocks
labels_are p i f there = ap (λ o. unwrap_or (option_map (λ func. labels_in func.blocks) o) []) there

number_is : (ns : List Name) (x : Name) (k : ℕ) → place_of ns x ≡ Some k → number_in ns x ≡ k
number_is ns x k e = ap (λ o. unwrap_or o 0) e

-- the edge to a label that a block has
edge_to : {A : Type 0} (p : Program A) (i : ℕ) (f : Func A) (left l : Name) → func_at p i ≡ Some f → Has (labels_in f.blocks) l → EdgeNamed p i f left (edge_of p f.blocks (temps_named f) left l)
edge_to p i f left l there known =
    let ns = temps_named f in
    let ls = labels_in f.blocks in
    let d = label-found f.blocks l known.0 known.1 in
    record {
      target = d.block;
      there = ap (slice_get f.blocks) (number_is ls l known.0 known.1) ∙ d.there;
      found = ap (λ ms. block_labelled f.blocks (name_at ms (number_in ls l))) (labels_are p i f there) ∙ ap (block_labelled f.blocks) (name-number ls l known) ∙ d.found;
      moves = ap (λ ms. map (named_move ms) (moves_into p ns left (block_labelled f.blocks l))) (names_are p i f there)
          ∙ ap (λ o. map (named_move ns) (moves_into p ns left o)) d.found
          ∙ block-moves-named p ns left d.block (block-has f known.0 d.block d.there);
    }

edge_of_jump : {A : Type 0} (p : Program A) (i : ℕ) (f : Func A) (left : Name) (j : JumpKind) (e : Edge A) → func_at p i ≡ Some f → HasAll (labels_in f.blocks) (jump_labels j)
    → IsEdgeOf e (jump_of p f.blocks (temps_named f) left j) → EdgeNamed p i f left e
edge_of_jump p i f left (jumps.Jmp l) e there known is = subst (EdgeNamed p i f left) (sym is) (edge_to p i f left l there known.0)
edge_of_jump p i f left (jumps.Jnz a l m) e there known (inl is) = subst (EdgeNamed p i f left) (sym is) (edge_to p i f left l there known.0)
edge_of_jump p i f left (jumps.Jnz a l m) e there known (inr is) = subst (EdgeNamed p i f left) (sym is) (edge_to p i f left m there known.1.0)
edge_of_jump p i f left (jumps.Ret a) e there known is = absurd is
edge_of_jump p i f left jumps.Hlt e there known is = absurd is

jump_known : {A : Type 0} (p : Program A) (i j : ℕ) (f : Func A) (b : Block A) → KnowsLabels p → func_at p i ≡ Some f → slice_get f.blocks j ≡ Some b → HasAll (labels_in f.blocks) (jump_labels b.jump.kind)
jump_known p i j f b knows there at = all-among (labels_in f.blocks) (jump_labels b.jump.kind) (λ l. knows.known i f j b l there at)

-- an edge of the jump of block j of function i
pub edge-named : {A : Type 0} (p : Program A) (i j : ℕ) (f : Func A) (b : Block A) (k : NumberedBlock A) (e : Edge A)
    → KnowsLabels p → func_at p i ≡ Some f → slice_get f.blocks j ≡ Some b → block_of p f.blocks (temps_named f) b ≡ k → IsEdgeOf e k.jump → EdgeNamed p i f b.label e
edge-named p i j f b k e knows there at is of =
    edge_of_jump p i f b.label b.jump.kind e there (jump_known p i j f b knows there at) (subst (IsEdgeOf e) (sym (ap (λ (c : NumberedBlock _). c.jump) is)) of)

-- the same by the numbers of the function and of the block
pub record EdgeHere {A : Type 0} (p : Program A) (i j : ℕ) (e : Edge A) : Type 0 where
  pub func : Func A
  pub func_there : func_at p i ≡ Some func
  pub block : Block A
  pub block_there : slice_get func.blocks j ≡ Some block
  pub named : EdgeNamed p i func block.label e

edge_in_block : {A : Type 0} (p : Program A) (i j : ℕ) (f : Func A) (k : NumberedBlock A) (e : Edge A) (o : Option (Block A)) → KnowsLabels p → func_at p i ≡ Some f → slice_get f.blocks j ≡ o
    → option_map (block_of p f.blocks (temps_named f)) o ≡ Some k → IsEdgeOf e k.jump → EdgeHere p i j e
edge_in_block p i j f k e None knows there at is of = absurd cc
edge_in_block p i j f k e (Some b) knows there at is of =
    record { func = f; func_there = there; block = b; block_there = at; named = edge-named p i j f b k e knows there at (ap (λ o. unwrap_or o k) is) of }

edge_in_func : {A : Type 0} (p : Program A) (i j : ℕ) (k : NumberedBlock A) (e : Edge A) (o : Option (Func A)) → KnowsLabels p → func_at p i ≡ o
    → option_and_then (λ f. option_map (block_of p f.blocks (temps_named f)) (slice_get f.blocks j)) o ≡ Some k → IsEdgeOf e k.jump → EdgeHere p i j e
edge_in_func p i j k e None knows there is of = absurd cc
edge_in_func p i j k e (Some f) knows there is of = edge_in_block p i j f k e (slice_get f.blocks j) knows there refl is of

pub edge-here : {A : Type 0} (p : Program A) (i j : ℕ) (k : NumberedBlock A) (e : Edge A) → KnowsLabels p → block_code_at p i j ≡ Some k → IsEdgeOf e k.jump → EdgeHere p i j e
edge-here p i j k e knows is of = edge_in_func p i j k e (func_at p i) knows refl is of

-- ---- the moves between two blocks

-- among labels of which no two are equal, each has its place as its number
place_here : (ls : List Name) (x : Name) (k m : ℕ) → AllPairs Differ ls → slice_get ls k ≡ Some x → slice_get ls m ≡ Some x → k < m → ⊥
place_here ls x k m apart at there l =
    apart k m x l (slice_get_within ls m x there) (get_or_from_slice_get ls k x x at ∙ sym (get_or_from_slice_get ls m x x there))

same_place : (ls : List Name) (x : Name) (k m : ℕ) → AllPairs Differ ls → slice_get ls k ≡ Some x → slice_get ls m ≡ Some x → k ≡ m
same_place ls x k m apart at there = by (cases_order k m) where
  by : (k ≡ m) ⊎ ((k < m) ⊎ (m < k)) → k ≡ m
  by (inl e) = e
  by (inr (inl l)) = absurd (place_here ls x k m apart at there l)
  by (inr (inr l)) = absurd (place_here ls x m k apart there at l)

own_number : (ls : List Name) (x : Name) (k : ℕ) → AllPairs Differ ls → slice_get ls k ≡ Some x → number_in ls x ≡ k
own_number ls x k apart at =
    let h = has-among ls x k at in
    number_is ls x h.0 h.1 ∙ same_place ls x h.0 k apart (name-at ls x h.0 h.1) at

labels_differ : {A : Type 0} (f : Func A) → recorded [] (labels_in f.blocks) ≡ labels_in f.blocks → AllPairs Differ (labels_in f.blocks)
labels_differ f h = let ls = labels_in f.blocks in subst (AllPairs Differ) (sym (recorded-once ls) ∙ h) (once-differ ls)

pub numbers_blocks : {A : Type 0} (p : Program A) → AreNumerable p → NumbersBlocks p
numbers_blocks p all = record {
  number = λ i f j b there at. own_number (labels_in f.blocks) b.label j (labels_differ f (func_at_numerable p i f all there).labels) (mapped_at (λ c. c.label) f.blocks j b at);
}

-- what is known of the block to which a jump may lead
pub record Reached {A : Type 0} (f : Func A) (k : ℕ) (t : Block A) : Type 0 where
  pub number : number_in (labels_in f.blocks) t.label ≡ k
  pub label : name_at (labels_in f.blocks) k ≡ t.label
  pub found : block_labelled f.blocks t.label ≡ Some t

-- the edge to the block's label leads there
taken : {A : Type 0} (p : Program A) (f : Func A) (left : Name) (k : ℕ) (t : Block A) → Reached f k t → (l : Name) → l ≡ t.label → (others : List PhiMove)
    → moves_to k (edge_of p f.blocks (temps_named f) left l) others ≡ block_moves p (temps_named f) left t
taken p f left k t r l is others =
    let ns = temps_named f in
    let ls = labels_in f.blocks in
    let e : (number_in ls l == k) ≡ true = (Decides-eqb (number_in ls l) k).1 (ap (number_in ls) is ∙ r.number) in
    ap (λ b. if b then moves_into p ns left (block_labelled f.blocks l) else others) e
    ∙ ap (λ x. moves_into p ns left (block_labelled f.blocks x)) is
    ∙ ap (moves_into p ns left) r.found

two_ways : {A : Type 0} (p : Program A) (f : Func A) (left : Name) (k : ℕ) (t : Block A) → Reached f k t → (l m : Name) → Has (labels_in f.blocks) l → IsAmong t.label (l ∷ (m ∷ []))
    → (b : Bool) → (number_in (labels_in f.blocks) l == k) ≡ b
    → moves_to k (edge_of p f.blocks (temps_named f) left l) (moves_to k (edge_of p f.blocks (temps_named f) left m) []) ≡ block_moves p (temps_named f) left t
two_ways p f left k t r l m known among true e =
    let ls = labels_in f.blocks in
    taken p f left k t r l (sym (name-number ls l known) ∙ ap (name_at ls) ((Decides-eqb (number_in ls l) k).0 e) ∙ r.label) _
two_ways p f left k t r l m known (zero, at) false e =
    let ls = labels_in f.blocks in
    let same : l ≡ t.label = ap (λ o. unwrap_or o l) at in
    absurd (not_both e ((Decides-eqb (number_in ls l) k).1 (ap (number_in ls) same ∙ r.number)))
  where
    not_both : {b : Bool} → b ≡ false → b ≡ true → ⊥
    not_both e g = absurd cc
two_ways p f left k t r l m known (suc zero, at) false e =
    ap (λ b. if b then moves_into p (temps_named f) left (block_labelled f.blocks l) else moves_to k (edge_of p f.blocks (temps_named f) left m) []) e
    ∙ taken p f left k t r m (ap (λ o. unwrap_or o m) at) []
two_ways p f left k t r l m known (suc (suc i), at) false e = absurd cc

by_jump : {A : Type 0} (p : Program A) (f : Func A) (left : Name) (k : ℕ) (t : Block A) → Reached f k t → (j : JumpKind) → HasAll (labels_in f.blocks) (jump_labels j) → IsAmong t.label (jump_labels j)
    → moves_by k (Some (jump_of p f.blocks (temps_named f) left j)) ≡ block_moves p (temps_named f) left t
by_jump p f left k t r (jumps.Jmp l) known (zero, at) = taken p f left k t r l (ap (λ o. unwrap_or o l) at) []
by_jump p f left k t r (jumps.Jmp l) known (suc i, at) = absurd cc
by_jump p f left k t r (jumps.Jnz a l m) known among = two_ways p f left k t r l m known.0 among (number_in (labels_in f.blocks) l == k) refl
by_jump p f left k t r (jumps.Ret a) known among = nowhere among.0 among.1
  where
    nowhere : {X : Type 0} (i : ℕ) → slice_get {X = Name} [] i ≡ Some t.label → X
    nowhere i at = absurd cc
by_jump p f left k t r jumps.Hlt known among = nowhere among.0 among.1
  where
    nowhere : {X : Type 0} (i : ℕ) → slice_get {X = Name} [] i ≡ Some t.label → X
    nowhere i at = absurd cc

reached : {A : Type 0} (p : Program A) (i k : ℕ) (f : Func A) (t : Block A) → AreNumerable p → Finds p → func_at p i ≡ Some f → slice_get f.blocks k ≡ Some t → Reached f k t
reached p i k f t all finds there at =
    let ls = labels_in f.blocks in
    let here : slice_get ls k ≡ Some t.label = mapped_at (λ b. b.label) f.blocks k t at in
    record {
      number = own_number ls t.label k (labels_differ f (func_at_numerable p i f all there).labels) here;
      label = ap (λ o. unwrap_or o []) here;
      found = finds.block i f k t there at;
    }

in_func : {A : Type 0} (p : Program A) (i from to : ℕ) (left target : Block A) (f : Func A) → AreNumerable p → Finds p → KnowsLabels p → func_at p i ≡ Some f
    → slice_get f.blocks from ≡ Some left → slice_get f.blocks to ≡ Some target → IsAmong target.label (jump_labels left.jump.kind)
    → map (named_move (temps_named f)) (moves_by to (option_map (λ block. block.jump) (option_map (block_of p f.blocks (temps_named f)) (slice_get f.blocks from)))) ≡ map (resolved_move p) (flat_map (phi_moves left.label) target.phis)
in_func p i from to left target f all finds knows there at at_target among =
    let ns = temps_named f in
    ap (λ o. map (named_move ns) (moves_by to (option_map (λ block. block.jump) (option_map (block_of p f.blocks ns) o)))) at
    ∙ ap (map (named_move ns)) (by_jump p f left.label to target (reached p i to f target all finds there at_target) left.jump.kind (jump_known p i from f left knows there at) among)
    ∙ block-moves-named p ns left.label target (block-has f to target at_target)

by_func : {A : Type 0} (p : Program A) (i from to : ℕ) (left target : Block A) (o : Option (Func A)) → AreNumerable p → Finds p → KnowsLabels p → func_at p i ≡ o
    → block_in o from ≡ Some left → block_in o to ≡ Some target → IsAmong target.label (jump_labels left.jump.kind)
    → map (named_move (names_in o)) (moves_by to (option_map (λ block. block.jump) (option_and_then (λ f. option_map (block_of p f.blocks (temps_named f)) (slice_get f.blocks from)) o))) ≡ map (resolved_move p) (flat_map (phi_moves left.label) target.phis)
by_func p i from to left target None all finds knows there at at_target among = absurd cc
by_func p i from to left target (Some f) all finds knows there at at_target among = in_func p i from to left target f all finds knows there at at_target among

pub phis-named : {A : Type 0} (p : Program A) (i from to : ℕ) (left target : Block A) → AreNumerable p → Finds p → KnowsLabels p
    → block_at p i from ≡ Some left → block_at p i to ≡ Some target → IsAmong target.label (jump_labels left.jump.kind)
    → map (named_move (names_of p i)) (phis_at p i from to) ≡ map (resolved_move p) (flat_map (phi_moves left.label) target.phis)
unfolding names_of
phis-named p i from to left target all finds knows at at_target among = by_func p i from to left target (func_at p i) all finds knows refl at at_target among
