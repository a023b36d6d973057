-- A name that is none of a function's temporaries has no definition in its text, and so no class.
use Rattle.std.proofs.Common.{◌≡◌, ◌∙◌, refl, sym, ap, ℕ, Bool, true, false, List, [], ◌∷◌, ◌++◌, Option, Some, None}
use Rattle.std.specs.Prelude.{map}
use Rattle.std.specs.List.{flat_map}
use Rattle.std.specs.Option.{option_or}
use Rattle.std.specs.Str.{bytes_eq}
use Rattle.std.proofs.lemmas.Slice.Eq.{bytes_eq-Decides}
use Rattle.qil_tree.specs.declared.ops.Class.{Class}
use Rattle.qil_tree.specs.declared.ops.AbiType.{AbiType}
use Rattle.qil_tree.specs.declared.tree.Operand.{Operand}
use Rattle.qil_tree.specs.declared.tree.Operand.TheVariants as operands
use Rattle.qil_tree.specs.declared.tree.Target.{Target}
use Rattle.qil_tree.specs.declared.tree.Param.{Param}
use Rattle.qil_tree.specs.declared.tree.PhiSource.{PhiSource}
use Rattle.qil_tree.specs.declared.tree.Phi.{Phi}
use Rattle.qil_tree.specs.declared.tree.Inst.{Inst}
use Rattle.qil_tree.specs.declared.tree.JumpKind.{JumpKind}
use Rattle.qil_tree.specs.declared.tree.JumpKind.TheVariants as jumps
use Rattle.qil_tree.specs.declared.tree.Block.{Block}
use Rattle.qil_tree.specs.declared.tree.Func.{Func}
use Rattle.qil_rules.specs.declared.occurrence.Occurrence.{Occurrence}
use Rattle.qil_rules.specs.Operands.{Read, inst_reads, inst_target, inst_long_class}
use Rattle.qil_rules.specs.Occurrences.{operand_occurrences, read_occurrences, target_occurrences, long_occurrences, source_occurrences, phi_occurrences, inst_occurrences, jump_occurrences, block_occurrences, param_occurrence, func_occurrences}
use Rattle.qil_symbols.specs.Numbers.{place_of}
use Rattle.qil_semantics.specs.State.{Name}
use Rattle.qil_semantics.specs.Names.{operand_names, target_names, phi_names, inst_names, jump_names, block_names, temps_named}
use Rattle.qil_semantics.specs.Poke.{defined_by, class_in}
use Rattle.qil_code.proofs.Has.{Has, HasAll, once-has}

-- the name is none of these
abbrev IsAbsent : Name → List Name → Type 0
IsAbsent x [] = Unit {0}
IsAbsent x (n ∷ ns) = (bytes_eq n x ≡ false) × IsAbsent x ns

absent_left : (x : Name) (ns ms : List Name) → IsAbsent x (ns ++ ms) → IsAbsent x ns
absent_left x [] ms h = tt
absent_left x (n ∷ ns) ms h = (h.0, absent_left x ns ms h.1)

absent_right : (x : Name) (ns ms : List Name) → IsAbsent x (ns ++ ms) → IsAbsent x ms
absent_right x [] ms h = h
absent_right x (n ∷ ns) ms h = absent_right x ns ms h.1

-- ---- texts that don't define the name

abbrev Lacks : Name → List Occurrence → Type 0
Lacks x text = class_in text x ≡ None

or_none : {X : Type 0} (a b : Option X) → a ≡ None → b ≡ None → option_or a b ≡ None
or_none a b ea eb = ap (λ o. option_or o b) ea ∙ eb

first_none : {X : Type 0} (a b : Option X) → option_or a b ≡ None → a ≡ None
first_none None b e = refl
first_none (Some x) b e = absurd cc

rest_none : {X : Type 0} (a b : Option X) → option_or a b ≡ None → b ≡ None
rest_none None b e = e
rest_none (Some x) b e = absurd cc

both_lack : (x : Name) (s t : List Occurrence) → Lacks x s → Lacks x t → Lacks x (s ++ t)
both_lack x [] t h k = k
both_lack x (m ∷ s) t h k =
    or_none (defined_by m.what x) (class_in (s ++ t) x) (first_none (defined_by m.what x) (class_in s x) h) (both_lack x s t (rest_none (defined_by m.what x) (class_in s x) h) k)

all_lack : {X : Type 0} (x : Name) (f : X → List Occurrence) (g : X → List Name) → ((y : X) → IsAbsent x (g y) → Lacks x (f y)) → (ys : List X) → IsAbsent x (flat_map g ys) → Lacks x (flat_map f ys)
all_lack x f g lack [] h = refl
all_lack x f g lack (y ∷ ys) h =
    both_lack x (f y) (flat_map f ys) (lack y (absent_left x (g y) (flat_map g ys) h)) (all_lack x f g lack ys (absent_right x (g y) (flat_map g ys) h))

-- what defines nothing at all
none_lack : {X : Type 0} (x : Name) (f : X → List Occurrence) → ((y : X) → Lacks x (f y)) → (ys : List X) → Lacks x (flat_map f ys)
none_lack x f lack [] = refl
none_lack x f lack (y ∷ ys) = both_lack x (f y) (flat_map f ys) (lack y) (none_lack x f lack ys)

operand_lacks : (x : Name) (line : ℕ) (c : Class) (a : Operand) → Lacks x (operand_occurrences line c a)
operand_lacks x line c (operands.Number n) = refl
operand_lacks x line c (operands.Global g) = refl
operand_lacks x line c (operands.Temp y) = refl

long_lacks : (x : Name) (line : ℕ) (c : Option Class) → Lacks x (long_occurrences line c)
long_lacks x line None = refl
long_lacks x line (Some c) = refl

target_lacks : (x : Name) (line : ℕ) (to : Option Target) → IsAbsent x (target_names to) → Lacks x (target_occurrences line to)
target_lacks x line None h = refl
target_lacks x line (Some to) h = rw h.0 refl

phi_lacks : {A : Type 0} (x : Name) (b : Name) (phi : Phi A) → IsAbsent x (phi_names phi) → Lacks x (phi_occurrences b phi)
phi_lacks x b phi h =
    let sources : PhiSource → List Occurrence = λ s. source_occurrences phi.line phi.target.class s in
    both_lack x (flat_map sources phi.sources) _ (none_lack x sources (λ s. operand_lacks x phi.line phi.target.class s.value) phi.sources) (rw h.0 refl)

inst_lacks : {A : Type 0} (x : Name) (inst : Inst A) → IsAbsent x (inst_names inst) → Lacks x (inst_occurrences inst)
inst_lacks x inst h =
    let long = long_occurrences inst.line (inst_long_class inst.kind) in
    let target = target_occurrences inst.line (inst_target inst.kind) in
    both_lack x (flat_map (read_occurrences inst.line) (inst_reads inst.kind)) (long ++ target)
    (none_lack x (read_occurrences inst.line) (λ (r : Read). operand_lacks x inst.line r.class r.operand) (inst_reads inst.kind))
    (both_lack x long target (long_lacks x inst.line (inst_long_class inst.kind))
    (target_lacks x inst.line (inst_target inst.kind) (absent_left x (target_names (inst_target inst.kind)) (flat_map (λ (r : Read). operand_names r.operand) (inst_reads inst.kind)) h)))

jump_lacks : (x : Name) (returns : Option AbiType) (b : Name) (line : ℕ) (j : JumpKind) → Lacks x (jump_occurrences returns b line j)
jump_lacks x returns b line (jumps.Jmp l) = refl
jump_lacks x returns b line (jumps.Jnz a l m) = both_lack x (operand_occurrences line _ a) _ (operand_lacks x line _ a) refl
jump_lacks x returns b line (jumps.Ret None) = refl
jump_lacks x returns b line (jumps.Ret (Some a)) = both_lack x (operand_occurrences line _ a) _ (operand_lacks x line _ a) refl
jump_lacks x returns b line jumps.Hlt = refl

block_lacks : {A : Type 0} (x : Name) (returns : Option AbiType) (b : Block A) → IsAbsent x (block_names b) → Lacks x (block_occurrences returns b)
block_lacks x returns b h =
    let jump = jump_occurrences returns b.label b.jump.line b.jump.kind in
    let more = flat_map inst_names b.insts ++ jump_names b.jump.kind in
    let behind : IsAbsent x more = absent_right x (flat_map phi_names b.phis) more h in
    both_lack x (flat_map (phi_occurrences b.label) b.phis) (flat_map inst_occurrences b.insts ++ jump)
    (all_lack x (phi_occurrences b.label) phi_names (phi_lacks x b.label) b.phis (absent_left x (flat_map phi_names b.phis) more h))
    (both_lack x (flat_map inst_occurrences b.insts) jump
    (all_lack x inst_occurrences inst_names (inst_lacks x) b.insts (absent_left x (flat_map inst_names b.insts) (jump_names b.jump.kind) behind))
    (jump_lacks x returns b.label b.jump.line b.jump.kind))

params_lack : (x : Name) (line : ℕ) (qs : List Param) → IsAbsent x (map (λ q. q.name) qs) → Lacks x (map (param_occurrence line) qs)
params_lack x line [] h = refl
params_lack x line (q ∷ qs) h = rw h.0 (params_lack x line qs h.1)

func_lacks : {A : Type 0} (x : Name) (f : Func A) → IsAbsent x (map (λ q. q.name) f.params ++ flat_map block_names f.blocks) → Lacks x (func_occurrences f)
func_lacks x f h =
    let names = map (λ q. q.name) f.params in
    let inner = flat_map block_names f.blocks in
    both_lack x (map (param_occurrence f.line) f.params) (flat_map (block_occurrences f.returns) f.blocks) (params_lack x f.line f.params (absent_left x names inner h))
    (all_lack x (block_occurrences f.returns) block_names (block_lacks x f.returns) f.blocks (absent_right x names inner h))

-- ---- names without a number

other_name : (ns : List Name) (x y : Name) (b : Bool) → place_of ns x ≡ None → Has ns y → bytes_eq y x ≡ b → b ≡ false
other_name ns x y false none h e = refl
other_name ns x y true none h e = none_some (sym none ∙ ap (place_of ns) (sym ((bytes_eq-Decides y x).0 e)) ∙ h.1)
  where
    none_some : {X : Type 0} {i : ℕ} → None ≡ Some i → X
    none_some e = absurd cc

absent_from : (ns : List Name) (x : Name) (ys : List Name) → place_of ns x ≡ None → HasAll ns ys → IsAbsent x ys
absent_from ns x [] none h = tt
absent_from ns x (y ∷ ys) none h = (other_name ns x y (bytes_eq y x) none h.0 refl, absent_from ns x ys none h.1)

pub unknown-unclassed : {A : Type 0} (f : Func A) (x : Name) → place_of (temps_named f) x ≡ None → class_in (func_occurrences f) x ≡ None
unknown-unclassed f x none =
    let all = map (λ q. q.name) f.params ++ flat_map block_names f.blocks in
    func_lacks x f (absent_from (temps_named f) x all none (once-has all))
