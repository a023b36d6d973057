-- Blocks of a well-formed program's functions: no two have one label, and there are at most 65,535.
use Rattle.std.proofs.Common.{◌≡◌, ◌∙◌, refl, sym, ap, subst, ℕ, zero, suc, ◌<◌, ◌≤◌, inl, inr, ⊎_elim, List, [], ◌∷◌, ◌++◌, map, filter, flat_map, slice_get, length, count_by, Option, Some, None, option_map, arith}
use Rattle.std.proofs.lemmas.Bool.{cases_lt}
use Rattle.std.proofs.lemmas.List.{length-map}
use Rattle.std.proofs.lemmas.List.Elements.{filter-append}
use Rattle.std.proofs.lemmas.List.Sums.{length-filter}
use Rattle.qil_tree.specs.declared.ops.Class.{Class}
use Rattle.qil_tree.specs.declared.ops.AbiType.{AbiType}
use Rattle.qil_tree.specs.declared.tree.Operand.{Operand}
use Rattle.qil_tree.specs.declared.tree.Operand.TheVariants as operands
use Rattle.qil_tree.specs.declared.tree.Target.{Target}
use Rattle.qil_tree.specs.declared.tree.Param.{Param}
use Rattle.qil_tree.specs.declared.tree.Phi.{Phi}
use Rattle.qil_tree.specs.declared.tree.Inst.{Inst}
use Rattle.qil_tree.specs.declared.tree.JumpKind.{JumpKind}
use Rattle.qil_tree.specs.declared.tree.JumpKind.TheVariants as jumps
use Rattle.qil_tree.specs.declared.tree.Block.{Block}
use Rattle.qil_tree.specs.declared.tree.Func.{Func}
use Rattle.qil_tree.specs.declared.tree.Program.{Program}
use Rattle.qil_rules.specs.declared.rule.Rule.TheVariants.{C2, C12}
use Rattle.qil_rules.specs.declared.occurrence.OccurrenceKind.TheVariants.{FunctionName, Label}
use Rattle.qil_rules.specs.declared.occurrence.Occurrence.{Occurrence}
use Rattle.qil_rules.specs.Operands.{inst_reads, inst_target, inst_long_class}
use Rattle.qil_rules.specs.Occurrences.{on, operand_occurrences, read_occurrences, target_occurrences, long_occurrences, source_occurrences, phi_occurrences, inst_occurrences, jump_occurrences, block_occurrences, param_occurrence, func_occurrences}
use Rattle.qil_rules.specs.Text.{IsAt}
use Rattle.qil_rules.specs.Rules.{WellFormed, is_label}
use Rattle.qil_semantics.specs.State.{Name}
use Rattle.qil_code.specs.Gather.{labels_in}
use Rattle.qil_code.proofs.Spots.{One, Two, two_more, one_behind, two_behind}
use Rattle.qil_code.proofs.Apart.{AreApart}
use Rattle.qil_code.proofs.FactsNames.{made_of, func_text}

abbrev label_of : {A : Type 0} → Block A → Occurrence
label_of b = on b.line (Label b.label)

-- what a block mentions after its label, and what all blocks do
abbrev behind_label : {A : Type 0} → Option AbiType → Block A → List Occurrence
behind_label returns b = flat_map (phi_occurrences b.label) b.phis ++ (flat_map inst_occurrences b.insts ++ jump_occurrences returns b.label b.jump.line b.jump.kind)

abbrev all_occurrences : {A : Type 0} → Option AbiType → List (Block A) → List Occurrence
all_occurrences returns bs = flat_map (block_occurrences returns) bs

-- ---- the labels of two blocks

one_block : {A : Type 0} (returns : Option AbiType) (bs : List (Block A)) (k : ℕ) (b : Block A) → slice_get bs k ≡ Some b → One (all_occurrences returns bs) (label_of b)
one_block returns [] k b h = absurd cc
one_block returns (c ∷ bs) zero b h = (0, ap (option_map label_of) h)
one_block returns (c ∷ bs) (suc k) b h = one_behind (block_occurrences returns c) (all_occurrences returns bs) (label_of b) (one_block returns bs k b h)

two_blocks : {A : Type 0} (returns : Option AbiType) (bs : List (Block A)) (i j : ℕ) (b c : Block A) → i < j → slice_get bs i ≡ Some b → slice_get bs j ≡ Some c → Two (all_occurrences returns bs) (label_of b) (label_of c)
two_blocks returns [] i j b c l h k = absurd cc
two_blocks returns (d ∷ bs) i zero b c l h k = absurd (omega (arith, l))
two_blocks returns (d ∷ bs) zero (suc j) b c l h k =
    let o = one_behind (behind_label returns d) (all_occurrences returns bs) (label_of c) (one_block returns bs j c k) in
    record { m = 0; n = suc o.0; before = omega arith; first = ap (option_map label_of) h; second = o.1 }
two_blocks returns (d ∷ bs) (suc i) (suc j) b c l h k =
    two_behind (block_occurrences returns d) (all_occurrences returns bs) (label_of b) (label_of c) (two_blocks returns bs i j b c (omega (arith, l)) h k)

two_labels : {A : Type 0} (f : Func A) (i j : ℕ) (b c : Block A) → i < j → slice_get f.blocks i ≡ Some b → slice_get f.blocks j ≡ Some c → Two (func_occurrences f) (label_of b) (label_of c)
two_labels f i j b c l h k =
    let params = map (param_occurrence f.line) f.params in
    let blocks = all_occurrences f.returns f.blocks in
    two_more (on f.line (FunctionName f.name)) (params ++ blocks) (label_of b) (label_of c) (two_behind params blocks (label_of b) (label_of c) (two_blocks f.returns f.blocks i j b c l h k))

stands_label : {A : Type 0} (text : List Occurrence) (k : ℕ) (b : Block A) (x : Name) → slice_get text k ≡ Some (label_of b) → b.label ≡ x → IsAt text k (Label x)
stands_label text k b x e s = ap (option_map (λ m. m.what)) e ∙ ap (λ y. Some (Label y)) s

-- by rule C2
pub labels_apart : {A : Type 0} (p : Program A) → WellFormed p → (n : ℕ) (f : Func A) → slice_get p.funcs n ≡ Some f → AreApart (labels_in f.blocks)
labels_apart p kept n f there i j x l a b =
    let c = made_of (λ c. c.label) f.blocks i x a in
    let d = made_of (λ c. c.label) f.blocks j x b in
    let w = two_labels f i j c.0 d.0 l c.1 d.1 in
    let t = func_text p.order p.datas p.funcs n f there in
    kept C2 (record { text = t.0; occurrence = w.n })
    (func_occurrences f, t.1, (x, w.m, w.before, stands_label (func_occurrences f) w.m c.0 x w.first c.2, stands_label (func_occurrences f) w.n d.0 x w.second d.2))

-- ---- the labels in a text are those of its blocks

abbrev labels_among : List Occurrence → List Occurrence
labels_among text = filter is_label text

both_bare : (xs ys : List Occurrence) → labels_among xs ≡ [] → labels_among ys ≡ [] → labels_among (xs ++ ys) ≡ []
both_bare xs ys e f = filter-append is_label xs ys ∙ ap (λ l. l ++ labels_among ys) e ∙ f

all_bare : {X : Type 0} (h : X → List Occurrence) → ((x : X) → labels_among (h x) ≡ []) → (xs : List X) → labels_among (flat_map h xs) ≡ []
all_bare h e [] = refl
all_bare h e (x ∷ xs) = both_bare (h x) (flat_map h xs) (e x) (all_bare h e xs)

operand_bare : (line : ℕ) (c : Class) (a : Operand) → labels_among (operand_occurrences line c a) ≡ []
operand_bare line c (operands.Number n) = refl
operand_bare line c (operands.Global g) = refl
operand_bare line c (operands.Temp x) = refl

target_bare : (line : ℕ) (to : Option Target) → labels_among (target_occurrences line to) ≡ []
target_bare line None = refl
target_bare line (Some to) = refl

long_bare : (line : ℕ) (c : Option Class) → labels_among (long_occurrences line c) ≡ []
long_bare line None = refl
long_bare line (Some c) = refl

phi_bare : {A : Type 0} (b : Name) (phi : Phi A) → labels_among (phi_occurrences b phi) ≡ []
phi_bare b phi =
    both_bare (flat_map (λ s. source_occurrences phi.line phi.target.class s) phi.sources) _
    (all_bare (λ s. source_occurrences phi.line phi.target.class s) (λ s. operand_bare phi.line phi.target.class s.value) phi.sources) refl

inst_bare : {A : Type 0} (inst : Inst A) → labels_among (inst_occurrences inst) ≡ []
inst_bare inst =
    both_bare (flat_map (read_occurrences inst.line) (inst_reads inst.kind)) _
    (all_bare (read_occurrences inst.line) (λ r. operand_bare inst.line r.class r.operand) (inst_reads inst.kind))
    (both_bare (long_occurrences inst.line (inst_long_class inst.kind)) (target_occurrences inst.line (inst_target inst.kind))
    (long_bare inst.line (inst_long_class inst.kind)) (target_bare inst.line (inst_target inst.kind)))

jump_bare : (returns : Option AbiType) (b : Name) (line : ℕ) (j : JumpKind) → labels_among (jump_occurrences returns b line j) ≡ []
jump_bare returns b line (jumps.Jmp l) = refl
jump_bare returns b line (jumps.Jnz a l m) = both_bare (operand_occurrences line _ a) _ (operand_bare line _ a) refl
jump_bare returns b line (jumps.Ret None) = refl
jump_bare returns b line (jumps.Ret (Some a)) = both_bare (operand_occurrences line _ a) _ (operand_bare line _ a) refl
jump_bare returns b line jumps.Hlt = refl

params_bare : (line : ℕ) (qs : List Param) → labels_among (map (param_occurrence line) qs) ≡ []
params_bare line [] = refl
params_bare line (q ∷ qs) = params_bare line qs

behind_bare : {A : Type 0} (returns : Option AbiType) (b : Block A) → labels_among (behind_label returns b) ≡ []
behind_bare returns b =
    both_bare (flat_map (phi_occurrences b.label) b.phis) _ (all_bare (phi_occurrences b.label) (phi_bare b.label) b.phis)
    (both_bare (flat_map inst_occurrences b.insts) _ (all_bare inst_occurrences inst_bare b.insts) (jump_bare returns b.label b.jump.line b.jump.kind))

blocks_labels : {A : Type 0} (returns : Option AbiType) (bs : List (Block A)) → labels_among (all_occurrences returns bs) ≡ map label_of bs
blocks_labels returns [] = refl
blocks_labels returns (b ∷ bs) =
    filter-append is_label (block_occurrences returns b) (all_occurrences returns bs)
    ∙ ap (λ l. label_of b ∷ (l ++ labels_among (all_occurrences returns bs))) (behind_bare returns b)
    ∙ ap (λ l. label_of b ∷ l) (blocks_labels returns bs)

func_labels : {A : Type 0} (f : Func A) → labels_among (func_occurrences f) ≡ map label_of f.blocks
func_labels f =
    filter-append is_label (map (param_occurrence f.line) f.params) (all_occurrences f.returns f.blocks)
    ∙ ap (λ l. l ++ labels_among (all_occurrences f.returns f.blocks)) (params_bare f.line f.params)
    ∙ blocks_labels f.returns f.blocks

label_count : {A : Type 0} (f : Func A) → count_by is_label (func_occurrences f) ≡ length f.blocks
label_count f = sym (length-filter is_label (func_occurrences f)) ∙ ap (λ l. length l) (func_labels f) ∙ length-map f.blocks label_of

-- by rule C12
pub few_blocks : {A : Type 0} (p : Program A) → WellFormed p → (n : ℕ) (f : Func A) → slice_get p.funcs n ≡ Some f → length f.blocks ≤ 65535
few_blocks p kept n f there = ⊎_elim
    (λ (l : 65535 < length f.blocks).
    let t = func_text p.order p.datas p.funcs n f there in
    absurd (kept C12 (record { text = t.0; occurrence = 0 }) (func_occurrences f, t.1, (f.name, refl, inr (inl (subst (λ m. 65535 < m) (sym (label_count f)) l))))))
    (λ (l : length f.blocks ≤ 65535). l)
    (cases_lt 65535 (length f.blocks))
