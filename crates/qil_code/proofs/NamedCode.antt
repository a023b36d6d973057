-- Instructions and jumps of a program's code, by number, read back through the names of their function.
use Rattle.std.proofs.Common.{◌≡◌, ◌∙◌, refl, sym, ap, ℕ, ◌<◌, ◌≤◌, List, [], ◌++◌, length, Option, Some, None, Bor}
use Rattle.std.specs.Prelude.{map, option_map, unwrap_or, slice_get}
use Rattle.std.specs.Option.{option_and_then, option_copied, MatchOption}
use Rattle.std.specs.List.{flat_map, HoldsAt}
use Rattle.std.proofs.lemmas.Option.{slice_get_past, slice_get_read}
use Rattle.qil_tree.specs.declared.tree.Inst.{Inst}
use Rattle.qil_tree.specs.declared.tree.Block.{Block}
use Rattle.qil_tree.specs.declared.tree.Func.{Func}
use Rattle.qil_tree.specs.declared.tree.Program.{Program}
use Rattle.qil_semantics.specs.State.{Name}
use Rattle.qil_semantics.specs.Names.{phi_names, inst_names, jump_names, block_names, temps_named}
use Rattle.qil_code.specs.Facts.{jump_labels, KnowsLabels}
use Rattle.qil_code.specs.Gather.{labels_in}
use Rattle.qil_code.specs.Numbered.{inst_of, block_of, func_at, block_in, block_at, inst_in, inst_at, names_in, names_of}
use Rattle.qil_code.specs.Named.{named_inst, named_jump, resolved_inst, resolved_jump}
use Rattle.qil_code.specs.Reading.{labels_at, inst_code_at, jump_code_at}
use Rattle.qil_code.proofs.FactsNames.{mapped_at}
use Rattle.qil_code.proofs.Has.{HasAll, HasAll-left, HasAll-right, HasAll-part, once-has, all-among}
use Rattle.qil_code.proofs.Naming.{named-kind, named-jump-kind}

-- ---- the names of a block are among those of its function

pub block-has : {A : Type 0} (f : Func A) (j : ℕ) (b : Block A) → slice_get f.blocks j ≡ Some b → HasAll (temps_named f) (block_names b)
block-has f j b at =
    let params = map (λ q. q.name) f.params in
    let blocks = flat_map block_names f.blocks in
    HasAll-part (temps_named f) block_names f.blocks j b at (HasAll-right (temps_named f) params blocks (once-has (params ++ blocks)))

pub inst-has : {A : Type 0} (ns : List Name) (b : Block A) (k : ℕ) (inst : Inst A) → slice_get b.insts k ≡ Some inst → HasAll ns (block_names b) → HasAll ns (inst_names inst)
inst-has ns b k inst at h =
    let insts = flat_map inst_names b.insts in
    let jump = jump_names b.jump.kind in
    HasAll-part ns inst_names b.insts k inst at (HasAll-left ns insts jump (HasAll-right ns (flat_map phi_names b.phis) (insts ++ jump) h))

pub jump-has : {A : Type 0} (ns : List Name) (b : Block A) → HasAll ns (block_names b) → HasAll ns (jump_names b.jump.kind)
jump-has ns b h =
    let insts = flat_map inst_names b.insts in
    let jump = jump_names b.jump.kind in
    HasAll-right ns insts jump (HasAll-right ns (flat_map phi_names b.phis) (insts ++ jump) h)

-- ---- instructions by number

inst_in_block : {A : Type 0} (p : Program A) (f : Func A) (j k : ℕ) (inst : Inst A) (o : Option (Block A)) → slice_get f.blocks j ≡ o → inst_in o k ≡ Some inst
    → option_map (named_inst (temps_named f)) (option_and_then (λ block. slice_get block.insts k) (option_map (block_of p f.blocks (temps_named f)) o)) ≡ Some (resolved_inst p inst.kind)
inst_in_block p f j k inst None there at = absurd cc
inst_in_block p f j k inst (Some b) there at =
    let ns = temps_named f in
    ap (option_map (named_inst ns)) (mapped_at (inst_of p ns) b.insts k inst at)
    ∙ ap (λ i. Some i) (named-kind p ns inst.kind (inst-has ns b k inst at (block-has f j b there)))

inst_in_func : {A : Type 0} (p : Program A) (j k : ℕ) (inst : Inst A) (o : Option (Func A)) → inst_in (block_in o j) k ≡ Some inst
    → option_map (named_inst (names_in o)) (option_and_then (λ block. slice_get block.insts k) (option_and_then (λ f. option_map (block_of p f.blocks (temps_named f)) (slice_get f.blocks j)) o)) ≡ Some (resolved_inst p inst.kind)
inst_in_func p j k inst None at = absurd cc
inst_in_func p j k inst (Some f) at = inst_in_block p f j k inst (slice_get f.blocks j) refl at

pub inst-named : {A : Type 0} (p : Program A) (i j k : ℕ) (inst : Inst A) → inst_at p i j k ≡ Some inst
    → option_map (named_inst (names_of p i)) (inst_code_at p i j k) ≡ Some (resolved_inst p inst.kind)
unfolding names_of
inst-named p i j k inst at = inst_in_func p j k inst (func_at p i) at

-- what a slice gives at a place
pub copied_at : {X : Type 0} (o : Option (Bor X)) (xs : List X) (i : ℕ) → MatchOption o (length xs ≤ i) (λ x. (i < length xs) × HoldsAt (λ y. x.now ≡ y) xs i) → option_copied o ≡ slice_get xs i
copied_at None xs i h = sym (slice_get_past xs i h)
copied_at (Some x) xs i h = sym (slice_get_read xs (length xs) i x.now refl h.0 (h.1 x.now))

-- ---- jumps by number

jump_in_block : {A : Type 0} (p : Program A) (i : ℕ) (f : Func A) (j : ℕ) (b : Block A) → KnowsLabels p → func_at p i ≡ Some f → slice_get f.blocks j ≡ Some b
    → option_map (named_jump (temps_named f) (labels_in f.blocks)) (option_map (λ block. block.jump) (option_map (block_of p f.blocks (temps_named f)) (slice_get f.blocks j)))
    ≡ Some (resolved_jump p b.jump.kind)
jump_in_block p i f j b knows there at =
    let ns = temps_named f in
    let ls = labels_in f.blocks in
    ap (λ o. option_map (named_jump ns ls) (option_map (λ block. block.jump) (option_map (block_of p f.blocks ns) o))) at
    ∙ ap (λ v. Some v) (named-jump-kind p f.blocks ns b.label b.jump.kind (jump-has ns b (block-has f j b at))
    (all-among ls (jump_labels b.jump.kind) (λ l. knows.known i f j b l there at)))

jump_in_func : {A : Type 0} (p : Program A) (i j : ℕ) (b : Block A) (o : Option (Func A)) → KnowsLabels p → func_at p i ≡ o → block_in o j ≡ Some b
    → option_map (named_jump (names_in o) (unwrap_or (option_map (λ f. labels_in f.blocks) o) [])) (option_map (λ block. block.jump) (option_and_then (λ f. option_map (block_of p f.blocks (temps_named f)) (slice_get f.blocks j)) o))
    ≡ Some (resolved_jump p b.jump.kind)
jump_in_func p i j b None knows there at = absurd cc
jump_in_func p i j b (Some f) knows there at = jump_in_block p i f j b knows there at

pub jump-named : {A : Type 0} (p : Program A) (i j : ℕ) (b : Block A) → KnowsLabels p → block_at p i j ≡ Some b
    → option_map (named_jump (names_of p i) (labels_at p i)) (jump_code_at p i j) ≡ Some (resolved_jump p b.jump.kind)
unfolding names_of
jump-named p i j b knows at = jump_in_func p i j b (func_at p i) knows refl at
