-- What the readers of a code say, by the number of a function, a block, a slot or an instruction.
use Rattle.std.specs.Prelude.{◌≡◌, ◌≤◌, ℕ, All, length, List, [], map, Option, Some, None, option_map, unwrap_or, slice_get, if◌then◌else◌, ◌==◌}
use Rattle.std.specs.Option.{option_and_then}
use Rattle.qil_tree.specs.declared.ops.AbiType.{AbiType}
use Rattle.qil_tree.specs.declared.ops.Class.{Class}
use Rattle.qil_tree.specs.declared.tree.Program.{Program}
use Rattle.qil_tree.specs.Trees.{HasBlocks}
use Rattle.qil_semantics.specs.State.{Name}
use Rattle.qil_semantics.specs.Names.{temps_named}
use Rattle.qil_code.specs.declared.numbered.Slot.{Slot}
use Rattle.qil_code.specs.declared.numbered.PhiMove.{PhiMove}
use Rattle.qil_code.specs.declared.numbered.NumberedInst.{NumberedInst}
use Rattle.qil_code.specs.declared.numbered.Edge.{Edge}
use Rattle.qil_code.specs.declared.numbered.NumberedJump.{NumberedJump}
use Rattle.qil_code.specs.declared.numbered.NumberedJump.TheVariants as jumps
use Rattle.qil_code.specs.declared.numbered.NumberedBlock.{NumberedBlock}
use Rattle.qil_code.specs.declared.numbered.FuncCode.{FuncCode}
use Rattle.qil_code.specs.Gather.{labels_in}
use Rattle.qil_code.specs.Facts.{AreNumerable, Finds, KnowsLabels, KnowsTemps}
use Rattle.qil_code.specs.Ranges.{FuncIsShort}
use Rattle.qil_code.specs.Numbered.{class_of_temp, param_of, block_of, func_code, func_at}

abbrev pub func_names : {A : Type 0} → Program A → List Name
func_names p = map (λ f. f.name) p.funcs

abbrev pub func_code_at : {A : Type 0} → Program A → ℕ → Option (FuncCode A)
func_code_at p f = option_map (func_code p) (func_at p f)

abbrev pub params_at : {A : Type 0} → Program A → ℕ → List (Slot × AbiType)
params_at p f = unwrap_or (option_map (λ func. map (param_of (temps_named func)) func.params) (func_at p f)) []

abbrev pub returns_at : {A : Type 0} → Program A → ℕ → Option AbiType
returns_at p f = option_and_then (λ func. func.returns) (func_at p f)

abbrev pub class_at : {A : Type 0} → Program A → ℕ → ℕ → Option Class
class_at p f s = option_and_then (λ func. option_map (class_of_temp func) (slice_get (temps_named func) s)) (func_at p f)

abbrev pub labels_at : {A : Type 0} → Program A → ℕ → List Name
labels_at p f = unwrap_or (option_map (λ func. labels_in func.blocks) (func_at p f)) []

abbrev pub block_code_at : {A : Type 0} → Program A → ℕ → ℕ → Option (NumberedBlock A)
block_code_at p f b = option_and_then (λ func. option_map (block_of p func.blocks (temps_named func)) (slice_get func.blocks b)) (func_at p f)

abbrev pub inst_code_at : {A : Type 0} → Program A → ℕ → ℕ → ℕ → Option (NumberedInst A)
inst_code_at p f b k = option_and_then (λ block. slice_get block.insts k) (block_code_at p f b)

abbrev pub jump_code_at : {A : Type 0} → Program A → ℕ → ℕ → Option (NumberedJump A)
jump_code_at p f b = option_map (λ block. block.jump) (block_code_at p f b)

abbrev pub insts_at : {A : Type 0} → Program A → ℕ → ℕ → List (NumberedInst A)
insts_at p f b = unwrap_or (option_map (λ block. block.insts) (block_code_at p f b)) []

-- the moves of an edge, if it leads to a block
abbrev pub moves_to : {A : Type 0} → ℕ → Edge A → List PhiMove → List PhiMove
moves_to b e others = if e.to.index == b then e.moves else others

abbrev pub moves_by : {A : Type 0} → ℕ → Option (NumberedJump A) → List PhiMove
moves_by b None = []
moves_by b (Some (jumps.Jmp e)) = moves_to b e []
moves_by b (Some (jumps.Jnz a e g)) = moves_to b e (moves_to b g [])
moves_by b (Some (jumps.Ret a)) = []
moves_by b (Some jumps.Hlt) = []

-- what the phis of a block do where another is left for it
abbrev pub phis_at : {A : Type 0} → Program A → ℕ → ℕ → ℕ → List PhiMove
phis_at p f from to = moves_by to (jump_code_at p f from)

-- ---- what a code keeps of its program

abbrev pub IsShortCode : {A : Type 0} → Program A → Type 0
IsShortCode p = All FuncIsShort (map (func_code p) p.funcs)

pub record IsCodeOf {A : Type 0} (p image : Program A) (names : List Name) (funcs : List (FuncCode A)) : Type 0 where
  pub image_is : image ≡ p
  pub names_are : names ≡ func_names p
  pub funcs_are : funcs ≡ map (func_code p) p.funcs
  pub few : length p.funcs ≤ 1000
  pub blocks : HasBlocks p
  pub numerable : AreNumerable p
  pub finds : Finds p
  pub knows : KnowsLabels p
  pub temps : KnowsTemps p
  pub short : IsShortCode p
