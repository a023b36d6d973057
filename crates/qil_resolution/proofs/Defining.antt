-- The class of the first definition, by the targets of a function's text and by all that stands in it.
use Rattle.std.proofs.Common.{◌≡◌, refl, sym, ap, ◌∙◌, List, [], ◌∷◌, ◌++◌, Option, Some, None}
use Rattle.std.specs.Prelude.{map, unwrap_or}
use Rattle.qil_tree.specs.declared.ops.Class.TheVariants as classes
use Rattle.qil_code.specs.Numbered.{class_of_temp}
use Rattle.std.specs.Option.{option_or}
use Rattle.std.specs.List.{flat_map}
use Rattle.qil_tree.specs.declared.ops.Class.{Class}
use Rattle.qil_tree.specs.declared.ops.AbiType.{AbiType}
use Rattle.qil_tree.specs.declared.tree.Operand.TheVariants as operands
use Rattle.qil_tree.specs.declared.tree.Operand.{Operand}
use Rattle.qil_tree.specs.declared.tree.Target.{Target}
use Rattle.qil_tree.specs.declared.tree.Param.{Param}
use Rattle.qil_tree.specs.declared.tree.PhiSource.{PhiSource}
use Rattle.qil_tree.specs.declared.tree.Phi.{Phi}
use Rattle.qil_tree.specs.declared.tree.Inst.{Inst}
use Rattle.qil_tree.specs.declared.tree.JumpKind.{JumpKind}
use Rattle.qil_tree.specs.declared.tree.JumpKind.TheVariants as jumps
use Rattle.qil_tree.specs.declared.tree.Block.{Block}
use Rattle.qil_tree.specs.declared.tree.Func.{Func}
use Rattle.qil_tree.specs.Types.{class_of}
use Rattle.qil_rules.specs.declared.occurrence.Occurrence.{Occurrence}
use Rattle.qil_rules.specs.Occurrences.{operand_occurrences, read_occurrences, target_occurrences, long_occurrences, source_occurrences, phi_occurrences, inst_occurrences, jump_occurrences, block_occurrences, param_occurrence, func_occurrences}
use Rattle.qil_rules.specs.Operands.{Read, inst_reads, inst_target, inst_long_class}
use Rattle.qil_semantics.specs.State.{Name}
use Rattle.qil_semantics.specs.Poke.{class_in, defined_by}
use Rattle.qil_resolution.specs.Classes.{listed, param_target, inst_targets, block_targets, func_targets, first_class}
use Rattle.qil_symbols.specs.Tables.{for_name}

or_assoc : {X : Type 0} (a b c : Option X) → option_or a (option_or b c) ≡ option_or (option_or a b) c
or_assoc None b c = refl
or_assoc (Some v) b c = refl

pub first-append : (xs ys : List Target) (x : Name) → first_class (xs ++ ys) x ≡ option_or (first_class xs x) (first_class ys x)
first-append [] ys x = refl
first-append (to ∷ xs) ys x = ap (λ o. option_or (for_name to.name to.class x) o) (first-append xs ys x) ∙ or_assoc (for_name to.name to.class x) (first_class xs x) (first_class ys x)

-- what was recorded first, and then more
pub joined : (o a b : Option Class) (xs ys : List Target) (x : Name) → a ≡ option_or o (first_class xs x) → b ≡ option_or a (first_class ys x) → b ≡ option_or o (first_class (xs ++ ys) x)
joined o a b xs ys x e f = f ∙ ap (λ v. option_or v (first_class ys x)) e ∙ sym (or_assoc o (first_class xs x) (first_class ys x)) ∙ ap (λ v. option_or o v) (sym (first-append xs ys x))

pub further : (o a all : Option Class) (xs ys : List Target) (x : Name) → a ≡ option_or o (first_class xs x) → option_or o (first_class (xs ++ ys) x) ≡ all → option_or a (first_class ys x) ≡ all
further o a all xs ys x e f = joined o a (option_or a (first_class ys x)) xs ys x e refl ∙ f

or_none : {X : Type 0} (a : Option X) → option_or a None ≡ a
or_none None = refl
or_none (Some v) = refl

or-is : {X : Type 0} (a b : Option X) → option_or a b ≡ option_or a b
or-is None b = refl
or-is (Some v) b = refl

class-append : (xs ys : List Occurrence) (x : Name) → class_in (xs ++ ys) x ≡ option_or (class_in xs x) (class_in ys x)
class-append [] ys x = refl
class-append (m ∷ xs) ys x =
    or-is (defined_by m.what x) (class_in (xs ++ ys) x)
    ∙ ap (λ o. option_or (defined_by m.what x) o) (class-append xs ys x)
    ∙ or_assoc (defined_by m.what x) (class_in xs x) (class_in ys x)
    ∙ ap (λ o. option_or o (class_in ys x)) (sym (or-is (defined_by m.what x) (class_in xs x)))

-- ---- what defines nothing

operand-none : (line : _) (c : Class) (a : Operand) (x : Name) → class_in (operand_occurrences line c a) x ≡ None
operand-none line c (operands.Number n) x = refl
operand-none line c (operands.Global g) x = refl
operand-none line c (operands.Temp y) x = refl

reads-none : (line : _) (rs : List Read) (x : Name) → class_in (flat_map (read_occurrences line) rs) x ≡ None
reads-none line [] x = refl
reads-none line (r ∷ rs) x = class-append (read_occurrences line r) (flat_map (read_occurrences line) rs) x ∙ rw (operand-none line r.class r.operand x) (reads-none line rs x)

sources-none : (line : _) (c : Class) (ss : List PhiSource) (x : Name) → class_in (flat_map (λ s. source_occurrences line c s) ss) x ≡ None
sources-none line c [] x = refl
sources-none line c (s ∷ ss) x =
    class-append (source_occurrences line c s) (flat_map (λ s. source_occurrences line c s) ss) x
    ∙ rw (operand-none line c s.value x) (sources-none line c ss x)

jump-none : (returns : Option AbiType) (b : Name) (line : _) (j : JumpKind) (x : Name) → class_in (jump_occurrences returns b line j) x ≡ None
jump-none returns b line (jumps.Jmp l) x = refl
jump-none returns b line (jumps.Jnz a l m) x = class-append (operand_occurrences line _ a) _ x ∙ rw (operand-none line _ a x) refl
jump-none returns b line (jumps.Ret None) x = refl
jump-none returns b line (jumps.Ret (Some a)) x = class-append (operand_occurrences line _ a) _ x ∙ rw (operand-none line _ a x) refl
jump-none returns b line jumps.Hlt x = refl

-- ---- the targets of a text are what it defines

params-class : (line : _) (ps : List Param) (x : Name) → class_in (map (param_occurrence line) ps) x ≡ first_class (map param_target ps) x
params-class line [] x = refl
params-class line (q ∷ ps) x =
    or-is (for_name q.name (class_of q.abi_type) x) (class_in (map (param_occurrence line) ps) x)
    ∙ ap (λ o. option_or (for_name q.name (class_of q.abi_type) x) o) (params-class line ps x)

target-class : (line : _) (to : Option Target) (x : Name) → class_in (target_occurrences line to) x ≡ first_class (listed to) x
target-class line None x = refl
target-class line (Some to) x = or-is (for_name to.name to.class x) None

long-none : (line : _) (c : Option Class) (x : Name) → class_in (long_occurrences line c) x ≡ None
long-none line None x = refl
long-none line (Some c) x = refl

inst-class : {A : Type 0} (inst : Inst A) (x : Name) → class_in (inst_occurrences inst) x ≡ first_class (inst_targets inst) x
inst-class inst x =
    class-append (flat_map (read_occurrences inst.line) (inst_reads inst.kind)) _ x
    ∙ rw (reads-none inst.line (inst_reads inst.kind) x) (
    class-append (long_occurrences inst.line (inst_long_class inst.kind)) (target_occurrences inst.line (inst_target inst.kind)) x
    ∙ rw (long-none inst.line (inst_long_class inst.kind) x) (target-class inst.line (inst_target inst.kind) x)
    )

phi-class : {A : Type 0} (b : Name) (phi : Phi A) (x : Name) → class_in (phi_occurrences b phi) x ≡ first_class (phi.target ∷ []) x
phi-class b phi x =
    class-append (flat_map (λ s. source_occurrences phi.line phi.target.class s) phi.sources) _ x
    ∙ rw (sources-none phi.line phi.target.class phi.sources x) (or-is (for_name phi.target.name phi.target.class x) None)

phis-class : {A : Type 0} (b : Name) (phis : List (Phi A)) (x : Name) → class_in (flat_map (phi_occurrences b) phis) x ≡ first_class (map (λ phi. phi.target) phis) x
phis-class b [] x = refl
phis-class b (phi ∷ phis) x =
    class-append (phi_occurrences b phi) (flat_map (phi_occurrences b) phis) x
    ∙ rw (phi-class b phi x, phis-class b phis x) (sym (first-append (phi.target ∷ []) (map (λ phi. phi.target) phis) x))

insts-class : {A : Type 0} (insts : List (Inst A)) (x : Name) → class_in (flat_map inst_occurrences insts) x ≡ first_class (flat_map inst_targets insts) x
insts-class [] x = refl
insts-class (inst ∷ insts) x =
    class-append (inst_occurrences inst) (flat_map inst_occurrences insts) x
    ∙ rw (inst-class inst x, insts-class insts x) (sym (first-append (inst_targets inst) (flat_map inst_targets insts) x))

behind_phis : {A : Type 0} (returns : Option AbiType) (b : Block A) (x : Name)
    → class_in (flat_map inst_occurrences b.insts ++ jump_occurrences returns b.label b.jump.line b.jump.kind) x ≡ class_in (flat_map inst_occurrences b.insts) x
behind_phis returns b x =
    class-append (flat_map inst_occurrences b.insts) (jump_occurrences returns b.label b.jump.line b.jump.kind) x
    ∙ rw (jump-none returns b.label b.jump.line b.jump.kind x) (or_none (class_in (flat_map inst_occurrences b.insts) x))

block-class : {A : Type 0} (returns : Option AbiType) (b : Block A) (x : Name) → class_in (block_occurrences returns b) x ≡ first_class (block_targets b) x
block-class returns b x =
    class-append (flat_map (phi_occurrences b.label) b.phis) _ x
    ∙ ap (λ o. option_or (class_in (flat_map (phi_occurrences b.label) b.phis) x) o) (behind_phis returns b x)
    ∙ rw (phis-class b.label b.phis x, insts-class b.insts x) (sym (first-append (map (λ phi. phi.target) b.phis) (flat_map inst_targets b.insts) x))

blocks-class : {A : Type 0} (returns : Option AbiType) (bs : List (Block A)) (x : Name) → class_in (flat_map (block_occurrences returns) bs) x ≡ first_class (flat_map block_targets bs) x
blocks-class returns [] x = refl
blocks-class returns (b ∷ bs) x =
    class-append (block_occurrences returns b) (flat_map (block_occurrences returns) bs) x
    ∙ rw (block-class returns b x, blocks-class returns bs x) (sym (first-append (block_targets b) (flat_map block_targets bs) x))

pub func-class : {A : Type 0} (func : Func A) (x : Name) → class_in (func_occurrences func) x ≡ first_class (func_targets func) x
func-class func x =
    class-append (map (param_occurrence func.line) func.params) (flat_map (block_occurrences func.returns) func.blocks) x
    ∙ rw (params-class func.line func.params x, blocks-class func.returns func.blocks x) (sym (first-append (map param_target func.params) (flat_map block_targets func.blocks) x))

-- the classes by a table of the definitions are those of the temporaries
pub map-class : {A : Type 0} (func : Func A) (table : Name → Option Class) (names : List Name) → ((x : Name) → table x ≡ first_class (func_targets func) x)
    → map (λ x. unwrap_or (table x) classes.W) names ≡ map (class_of_temp func) names
map-class func table [] h = refl
map-class func table (x ∷ names) h =
    ap (λ o. unwrap_or o classes.W ∷ map (λ y. unwrap_or (table y) classes.W) names) (h x ∙ sym (func-class func x))
    ∙ ap (λ l. class_of_temp func x ∷ l) (map-class func table names h)
