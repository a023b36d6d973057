-- The text of a program: each definition as a list of occurrences, what stands in it one thing after the other.
use Rattle.std.specs.Prelude.{ℕ, List, [], ◌∷◌, ◌++◌, Option, Some, None, map, option_map, unwrap_or}
use Rattle.std.specs.List.{flat_map}
use Rattle.qil_tree.specs.declared.ops.Class.{Class}
use Rattle.qil_tree.specs.declared.ops.Class.TheVariants as classes
use Rattle.qil_tree.specs.declared.ops.AbiType.{AbiType}
use Rattle.qil_tree.specs.declared.tree.Operand.{Operand}
use Rattle.qil_tree.specs.declared.tree.Operand.TheVariants as operands
use Rattle.qil_tree.specs.declared.tree.Target.{Target}
use Rattle.qil_tree.specs.declared.tree.PhiSource.{PhiSource}
use Rattle.qil_tree.specs.declared.tree.Phi.{Phi}
use Rattle.qil_tree.specs.declared.tree.Inst.{Inst}
use Rattle.qil_tree.specs.declared.tree.InstKind.{InstKind}
use Rattle.qil_tree.specs.declared.tree.JumpKind.{JumpKind}
use Rattle.qil_tree.specs.declared.tree.JumpKind.TheVariants as jumps
use Rattle.qil_tree.specs.declared.tree.Block.{Block}
use Rattle.qil_tree.specs.declared.tree.Param.{Param}
use Rattle.qil_tree.specs.declared.tree.Func.{Func}
use Rattle.qil_tree.specs.declared.tree.Item.{Item}
use Rattle.qil_tree.specs.declared.tree.Item.TheVariants as items
use Rattle.qil_tree.specs.declared.tree.Field.{Field}
use Rattle.qil_tree.specs.declared.tree.Field.TheVariants as fields
use Rattle.qil_tree.specs.declared.tree.Data.{Data}
use Rattle.qil_tree.specs.declared.tree.Definition.{Definition}
use Rattle.qil_tree.specs.declared.tree.Definition.TheVariants as definitions
use Rattle.qil_tree.specs.declared.tree.Program.{Program}
use Rattle.qil_tree.specs.Types.{class_of}
use Rattle.qil_rules.specs.Operands.{Read, inst_reads, inst_target, inst_long_class}
pub use Rattle.qil_rules.specs.declared.occurrence.OccurrenceKind.{OccurrenceKind}
pub use Rattle.qil_rules.specs.declared.occurrence.OccurrenceKind.TheVariants.{DataName, FunctionName, Label, Edge, PhiLabel, PhiOf, Defines, Uses, Global, Returns, Long}
pub use Rattle.qil_rules.specs.declared.occurrence.Occurrence.{Occurrence}

abbrev pub on : ℕ → OccurrenceKind → Occurrence
on line what = record { what = what; line = line }

-- ---- operands and targets

abbrev pub operand_occurrences : ℕ → Class → Operand → List Occurrence
operand_occurrences line c (operands.Number n) = []
operand_occurrences line c (operands.Global g) = on line (Global g) ∷ []
operand_occurrences line c (operands.Temp x) = on line (Uses x c) ∷ []

abbrev pub read_occurrences : ℕ → Read → List Occurrence
read_occurrences line r = operand_occurrences line r.class r.operand

abbrev pub target_occurrences : ℕ → Option Target → List Occurrence
target_occurrences line None = []
target_occurrences line (Some to) = on line (Defines to.name to.class) ∷ []

abbrev pub long_occurrences : ℕ → Option Class → List Occurrence
long_occurrences line None = []
long_occurrences line (Some c) = on line (Long c) ∷ []

-- ---- phis, instructions, jumps

abbrev pub source_occurrences : ℕ → Class → PhiSource → List Occurrence
source_occurrences line c s = on line (PhiLabel s.label) ∷ operand_occurrences line c s.value

abbrev pub phi_occurrences : {A : Type 0} → List ℕ → Phi A → List Occurrence
phi_occurrences block phi =
    flat_map (λ s. source_occurrences phi.line phi.target.class s) phi.sources
    ++ (on phi.line (PhiOf block phi.sources) ∷ (on phi.line (Defines phi.target.name phi.target.class) ∷ []))

abbrev pub kind_occurrences : {A : Type 0} → ℕ → InstKind A → List Occurrence
kind_occurrences line kind = flat_map (read_occurrences line) (inst_reads kind) ++ (long_occurrences line (inst_long_class kind) ++ target_occurrences line (inst_target kind))

abbrev pub inst_occurrences : {A : Type 0} → Inst A → List Occurrence
inst_occurrences inst = kind_occurrences inst.line inst.kind

-- what is returned stands in the class of the return type; without one any value fits
abbrev pub returned_class : Option AbiType → Class
returned_class returns = unwrap_or (option_map class_of returns) classes.W

abbrev pub jump_occurrences : Option AbiType → List ℕ → ℕ → JumpKind → List Occurrence
jump_occurrences returns block line (jumps.Jmp l) = on line (Edge block l) ∷ []
jump_occurrences returns block line (jumps.Jnz a l m) = operand_occurrences line classes.W a ++ (on line (Edge block l) ∷ (on line (Edge block m) ∷ []))
jump_occurrences returns block line (jumps.Ret None) = []
jump_occurrences returns block line (jumps.Ret (Some a)) = operand_occurrences line (returned_class returns) a ++ (on line (Returns returns) ∷ [])
jump_occurrences returns block line jumps.Hlt = []

-- ---- blocks, functions, data

abbrev pub block_occurrences : {A : Type 0} → Option AbiType → Block A → List Occurrence
block_occurrences returns b =
    on b.line (Label b.label) ∷ (flat_map (phi_occurrences b.label) b.phis ++ (flat_map inst_occurrences b.insts ++ jump_occurrences returns b.label b.jump.line b.jump.kind))

abbrev pub param_occurrence : ℕ → Param → Occurrence
param_occurrence line p = on line (Defines p.name (class_of p.abi_type))

abbrev pub func_occurrences : {A : Type 0} → Func A → List Occurrence
func_occurrences f = on f.line (FunctionName f.name) ∷ (map (param_occurrence f.line) f.params ++ flat_map (block_occurrences f.returns) f.blocks)

abbrev pub item_occurrences : {A : Type 0} → ℕ → Item A → List Occurrence
item_occurrences line (items.Number n) = []
item_occurrences line (items.Text bytes) = []
item_occurrences line (items.Address g n) = on line (Global g) ∷ []

abbrev pub field_occurrences : {A : Type 0} → ℕ → Field A → List Occurrence
field_occurrences line (fields.Values width values) = flat_map (item_occurrences line) values
field_occurrences line (fields.Zeros n) = []

abbrev pub data_occurrences : {A : Type 0} → Data A → List Occurrence
data_occurrences d = on d.line (DataName d.name) ∷ flat_map (field_occurrences d.line) d.fields

-- ---- the program

-- the definitions in this order; what the order leaves out comes after
abbrev pub texts_in : {A : Type 0} → List Definition → List (Data A) → List (Func A) → List (List Occurrence)
texts_in [] datas funcs = map data_occurrences datas ++ map func_occurrences funcs
texts_in (definitions.Data ∷ order) [] funcs = texts_in order [] funcs
texts_in (definitions.Data ∷ order) (d ∷ datas) funcs = data_occurrences d ∷ texts_in order datas funcs
texts_in (definitions.Func ∷ order) datas [] = texts_in order datas []
texts_in (definitions.Func ∷ order) datas (f ∷ funcs) = func_occurrences f ∷ texts_in order datas funcs

-- a program as the texts of its definitions
abbrev pub texts : {A : Type 0} → Program A → List (List Occurrence)
texts p = texts_in p.order p.datas p.funcs
