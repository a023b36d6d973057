-- In a well-formed program each label that a jump names is that of a block of its function.
use Rattle.std.proofs.Common.{◌≡◌, ◌∙◌, refl, sym, ap, subst, ℕ, zero, suc, inl, true, false, List, [], ◌∷◌, ◌++◌, Option, Some, None}
use Rattle.std.specs.Prelude.{map, option_map, unwrap_or, slice_get}
use Rattle.std.specs.List.{flat_map}
use Rattle.qil_tree.specs.declared.ops.Class.{Class}
use Rattle.qil_tree.specs.declared.ops.Class.TheVariants as classes
use Rattle.qil_tree.specs.declared.ops.AbiType.{AbiType}
use Rattle.qil_tree.specs.declared.tree.Operand.{Operand}
use Rattle.qil_tree.specs.declared.tree.Operand.TheVariants as operands
use Rattle.qil_tree.specs.declared.tree.Target.{Target}
use Rattle.qil_tree.specs.declared.tree.Param.{Param}
use Rattle.qil_tree.specs.declared.tree.PhiSource.{PhiSource}
use Rattle.qil_tree.specs.declared.tree.Phi.{Phi}
use Rattle.qil_tree.specs.declared.tree.Inst.{Inst}
use Rattle.qil_tree.specs.declared.tree.JumpKind.{JumpKind}
use Rattle.qil_tree.specs.declared.tree.JumpKind.TheVariants as jumps
use Rattle.qil_tree.specs.declared.tree.Block.{Block}
use Rattle.qil_tree.specs.declared.tree.Func.{Func}
use Rattle.qil_tree.specs.declared.tree.Program.{Program}
use Rattle.qil_rules.specs.declared.rule.Rule.TheVariants.{C3}
use Rattle.qil_rules.specs.declared.occurrence.OccurrenceKind.{OccurrenceKind}
use Rattle.qil_rules.specs.declared.occurrence.OccurrenceKind.TheVariants.{FunctionName, Label, Edge, PhiOf, Defines}
use Rattle.qil_rules.specs.declared.occurrence.Occurrence.{Occurrence}
use Rattle.qil_rules.specs.Operands.{inst_reads, inst_target, inst_long_class}
use Rattle.qil_rules.specs.Occurrences.{on, operand_occurrences, read_occurrences, target_occurrences, long_occurrences, source_occurrences, phi_occurrences, inst_occurrences, jump_occurrences, block_occurrences, param_occurrence, func_occurrences}
use Rattle.qil_rules.specs.Text.{IsAt, IsAmong}
use Rattle.qil_rules.specs.Rules.{WellFormed, begins_block, is_label}
use Rattle.qil_symbols.specs.Numbers.{place_of}
use Rattle.qil_semantics.specs.State.{Name}
use Rattle.qil_code.specs.Facts.{jump_labels, KnowsLabels}
use Rattle.qil_code.specs.Gather.{labels_in}
use Rattle.qil_code.proofs.Spots.{One, one_more, one_behind, one_before}
use Rattle.qil_code.proofs.FactsNames.{func_text}
use Rattle.qil_code.proofs.Has.{Has, HasAll, has-self, among-has}

-- ---- the edges of a jump, in the text of its function

edges_of_two : (line : ℕ) (from l m x : Name) (i : ℕ) → slice_get (l ∷ (m ∷ [])) i ≡ Some x → slice_get (on line (Edge from l) ∷ (on line (Edge from m) ∷ [])) i ≡ Some (on line (Edge from x))
edges_of_two line from l m x zero at = ap (option_map (λ y. on line (Edge from y))) at
edges_of_two line from l m x (suc zero) at = ap (option_map (λ y. on line (Edge from y))) at
edges_of_two line from l m x (suc (suc i)) at = absurd cc

edge_of_one : (line : ℕ) (from l x : Name) (i : ℕ) → slice_get (l ∷ []) i ≡ Some x → slice_get (on line (Edge from l) ∷ []) i ≡ Some (on line (Edge from x))
edge_of_one line from l x zero at = ap (option_map (λ y. on line (Edge from y))) at
edge_of_one line from l x (suc i) at = absurd cc

jump_edge : (returns : Option AbiType) (from : Name) (line : ℕ) (j : JumpKind) (x : Name) → IsAmong x (jump_labels j) → One (jump_occurrences returns from line j) (on line (Edge from x))
jump_edge returns from line (jumps.Jmp l) x (i, at) = (i, edge_of_one line from l x i at)
jump_edge returns from line (jumps.Jnz a l m) x (i, at) = one_behind (operand_occurrences line classes.W a) _ (on line (Edge from x)) (i, edges_of_two line from l m x i at)
jump_edge returns from line (jumps.Ret a) x (i, at) = absurd cc
jump_edge returns from line jumps.Hlt x (i, at) = absurd cc

abbrev edge_to : {A : Type 0} → Block A → Name → Occurrence
edge_to b x = on b.jump.line (Edge b.label x)

block_edge : {A : Type 0} (returns : Option AbiType) (b : Block A) (x : Name) → IsAmong x (jump_labels b.jump.kind) → One (block_occurrences returns b) (edge_to b x)
block_edge returns b x h =
    let jump = jump_occurrences returns b.label b.jump.line b.jump.kind in
    let insts = flat_map inst_occurrences b.insts in
    let phis = flat_map (phi_occurrences b.label) b.phis in
    one_more (on b.line (Label b.label)) (phis ++ (insts ++ jump)) (edge_to b x)
    (one_behind phis (insts ++ jump) (edge_to b x) (one_behind insts jump (edge_to b x) (jump_edge returns b.label b.jump.line b.jump.kind x h)))

-- what stands in a part stands in the whole
one_part : {X : Type 0} (f : X → List Occurrence) (xs : List X) (k : ℕ) (x : X) (m : Occurrence) → slice_get xs k ≡ Some x → One (f x) m → One (flat_map f xs) m
one_part f [] k x m at o = absurd cc
one_part f (y ∷ ys) zero x m at o = one_before (f y) (flat_map f ys) m (subst (λ z. One (f z) m) (sym (ap (λ q. unwrap_or q x) at)) o)
one_part f (y ∷ ys) (suc k) x m at o = one_behind (f y) (flat_map f ys) m (one_part f ys k x m at o)

func_edge : {A : Type 0} (f : Func A) (j : ℕ) (b : Block A) (x : Name) → slice_get f.blocks j ≡ Some b → IsAmong x (jump_labels b.jump.kind) → One (func_occurrences f) (edge_to b x)
func_edge f j b x at h =
    let params = map (param_occurrence f.line) f.params in
    let blocks = flat_map (block_occurrences f.returns) f.blocks in
    one_more (on f.line (FunctionName f.name)) (params ++ blocks) (edge_to b x)
    (one_behind params blocks (edge_to b x) (one_part (block_occurrences f.returns) f.blocks j b (edge_to b x) at (block_edge f.returns b x h)))

-- ---- the labels in a text

-- each label that stands in the text is among these names
abbrev AreKnown : List Name → List Occurrence → Type 0
AreKnown ls text = (k : ℕ) (x : Name) → IsAt text k (Label x) → Has ls x

none_known : (ls : List Name) → AreKnown ls []
none_known ls k x e = absurd cc

known_more : (ls : List Name) (m : Occurrence) (text : List Occurrence) → ((x : Name) → m.what ≡ Label x → Has ls x) → AreKnown ls text → AreKnown ls (m ∷ text)
known_more ls m text h all zero x e = h x (ap (λ o. unwrap_or o (Label x)) e)
known_more ls m text h all (suc k) x e = all k x e

-- what begins no block is no label
other_more : (ls : List Name) (m : Occurrence) (text : List Occurrence) → is_label m ≡ false → AreKnown ls text → AreKnown ls (m ∷ text)
other_more ls m text e all = known_more ls m text (λ x s. differ (sym e ∙ ap begins_block s)) all
  where
    differ : {X : Type 0} → false ≡ true → X
    differ e = absurd cc

both_known : (ls : List Name) (s t : List Occurrence) → AreKnown ls s → AreKnown ls t → AreKnown ls (s ++ t)
both_known ls [] t h g k x e = g k x e
both_known ls (m ∷ s) t h g zero x e = h 0 x e
both_known ls (m ∷ s) t h g (suc k) x e = both_known ls s t (λ j y d. h (suc j) y d) g k x e

all_known : {X : Type 0} (ls : List Name) (f : X → List Occurrence) → ((x : X) → AreKnown ls (f x)) → (xs : List X) → AreKnown ls (flat_map f xs)
all_known ls f h [] = none_known ls
all_known ls f h (x ∷ xs) = both_known ls (f x) (flat_map f xs) (h x) (all_known ls f h xs)

operand_known : (ls : List Name) (line : ℕ) (c : Class) (a : Operand) → AreKnown ls (operand_occurrences line c a)
operand_known ls line c (operands.Number n) = none_known ls
operand_known ls line c (operands.Global g) = other_more ls _ [] refl (none_known ls)
operand_known ls line c (operands.Temp x) = other_more ls _ [] refl (none_known ls)

target_known : (ls : List Name) (line : ℕ) (to : Option Target) → AreKnown ls (target_occurrences line to)
target_known ls line None = none_known ls
target_known ls line (Some to) = other_more ls _ [] refl (none_known ls)

long_known : (ls : List Name) (line : ℕ) (c : Option Class) → AreKnown ls (long_occurrences line c)
long_known ls line None = none_known ls
long_known ls line (Some c) = other_more ls _ [] refl (none_known ls)

phi_known : {A : Type 0} (ls : List Name) (b : Name) (phi : Phi A) → AreKnown ls (phi_occurrences b phi)
phi_known ls b phi =
    let sources : PhiSource → List Occurrence = λ s. source_occurrences phi.line phi.target.class s in
    let of = on phi.line (PhiOf b phi.sources) in
    let target = on phi.line (Defines phi.target.name phi.target.class) in
    both_known ls (flat_map sources phi.sources) (of ∷ (target ∷ []))
    (all_known ls sources (λ s. other_more ls _ (operand_occurrences phi.line phi.target.class s.value) refl (operand_known ls phi.line phi.target.class s.value)) phi.sources)
    (other_more ls of (target ∷ []) refl (other_more ls target [] refl (none_known ls)))

inst_known : {A : Type 0} (ls : List Name) (inst : Inst A) → AreKnown ls (inst_occurrences inst)
inst_known ls inst =
    let long = long_occurrences inst.line (inst_long_class inst.kind) in
    let target = target_occurrences inst.line (inst_target inst.kind) in
    both_known ls (flat_map (read_occurrences inst.line) (inst_reads inst.kind)) (long ++ target)
    (all_known ls (read_occurrences inst.line) (λ r. operand_known ls inst.line r.class r.operand) (inst_reads inst.kind))
    (both_known ls long target (long_known ls inst.line (inst_long_class inst.kind)) (target_known ls inst.line (inst_target inst.kind)))

jump_known : (ls : List Name) (returns : Option AbiType) (b : Name) (line : ℕ) (j : JumpKind) → AreKnown ls (jump_occurrences returns b line j)
jump_known ls returns b line (jumps.Jmp l) = other_more ls _ [] refl (none_known ls)
jump_known ls returns b line (jumps.Jnz a l m) =
    both_known ls (operand_occurrences line _ a) _ (operand_known ls line _ a)
    (other_more ls (on line (Edge b l)) (on line (Edge b m) ∷ []) refl (other_more ls (on line (Edge b m)) [] refl (none_known ls)))
jump_known ls returns b line (jumps.Ret None) = none_known ls
jump_known ls returns b line (jumps.Ret (Some a)) = both_known ls (operand_occurrences line _ a) _ (operand_known ls line _ a) (other_more ls _ [] refl (none_known ls))
jump_known ls returns b line jumps.Hlt = none_known ls

block_known : {A : Type 0} (ls : List Name) (returns : Option AbiType) (b : Block A) → Has ls b.label → AreKnown ls (block_occurrences returns b)
block_known ls returns b h =
    let jump = jump_occurrences returns b.label b.jump.line b.jump.kind in
    let insts = flat_map inst_occurrences b.insts in
    let phis = flat_map (phi_occurrences b.label) b.phis in
    known_more ls (on b.line (Label b.label)) (phis ++ (insts ++ jump)) (λ x e. subst (Has ls) (same_label x e) h)
    (both_known ls phis (insts ++ jump) (all_known ls (phi_occurrences b.label) (phi_known ls b.label) b.phis)
    (both_known ls insts jump (all_known ls inst_occurrences (inst_known ls) b.insts) (jump_known ls returns b.label b.jump.line b.jump.kind)))
  where
    label : OccurrenceKind → Name
    label (Label x) = x
    label what = []

    same_label : (x : Name) → Label b.label ≡ Label x → b.label ≡ x
    same_label x e = ap label e

blocks_known : {A : Type 0} (ls : List Name) (returns : Option AbiType) (bs : List (Block A)) → HasAll ls (labels_in bs) → AreKnown ls (flat_map (block_occurrences returns) bs)
blocks_known ls returns [] h = none_known ls
blocks_known ls returns (b ∷ bs) h =
    both_known ls (block_occurrences returns b) (flat_map (block_occurrences returns) bs) (block_known ls returns b h.0) (blocks_known ls returns bs h.1)

params_known : (ls : List Name) (line : ℕ) (qs : List Param) → AreKnown ls (map (param_occurrence line) qs)
params_known ls line [] = none_known ls
params_known ls line (q ∷ qs) = other_more ls (param_occurrence line q) (map (param_occurrence line) qs) refl (params_known ls line qs)

func_known : {A : Type 0} (f : Func A) → AreKnown (labels_in f.blocks) (func_occurrences f)
func_known f =
    let ls = labels_in f.blocks in
    let params = map (param_occurrence f.line) f.params in
    let blocks = flat_map (block_occurrences f.returns) f.blocks in
    other_more ls (on f.line (FunctionName f.name)) (params ++ blocks) refl
    (both_known ls params blocks (params_known ls f.line f.params) (blocks_known ls f.returns f.blocks (has-self ls)))

-- ---- by rule C3

has_or_not : (ls : List Name) (x : Name) (o : Option ℕ) → place_of ls x ≡ o → ((Has ls x → ⊥) → ⊥) → Has ls x
has_or_not ls x (Some i) e h = (i, e)
has_or_not ls x None e h = absurd (h (λ w. none (sym e ∙ w.1)))
  where
    none : {i : ℕ} → None ≡ Some i → ⊥
    none e = absurd cc

pub knows_labels : {A : Type 0} (p : Program A) → WellFormed p → KnowsLabels p
knows_labels p kept = record {
  known = λ i f j b x there at among.
      let ls = labels_in f.blocks in
      let text = func_occurrences f in
      let t = func_text p.order p.datas p.funcs i f there in
      let edge = func_edge f j b x at among in
      among-has ls x (has_or_not ls x (place_of ls x) refl (λ lost.
      kept C3 (record { text = t.0; occurrence = edge.0 })
      (text, t.1, (x, inl (b.label, ap (option_map (λ m. m.what)) edge.1), (λ k s. lost (func_known f k x s))))));
}
