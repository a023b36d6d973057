-- What numbering takes from the rules that a checked program keeps.
use Rattle.std.specs.Prelude.{◌≡◌, ℕ, ◌≤◌, List, [], ◌∷◌, length, map, Some, slice_get}
use Rattle.std.specs.List.{All}
use Rattle.qil_tree.specs.declared.tree.Func.{Func}
use Rattle.qil_tree.specs.declared.tree.JumpKind.{JumpKind}
use Rattle.qil_tree.specs.declared.tree.JumpKind.TheVariants as jumps
use Rattle.qil_tree.specs.declared.tree.Block.{Block}
use Rattle.qil_tree.specs.declared.tree.Program.{Program}
use Rattle.qil_rules.specs.Occurrences.{func_occurrences}
use Rattle.qil_rules.specs.Text.{IsAmong}
use Rattle.qil_symbols.specs.Numbers.{recorded, place_of}
use Rattle.qil_semantics.specs.State.{Name}
use Rattle.qil_semantics.specs.Names.{temps_named}
use Rattle.qil_semantics.specs.Poke.{class_in}
use Rattle.qil_semantics.specs.Step.{func_named, block_labelled}
use Rattle.qil_code.specs.Gather.{labels_in}
use Rattle.qil_code.specs.Slots.{number_in}
use Rattle.qil_code.specs.Numbered.{class_of_temp}

-- a function's temporaries and blocks have numbers of 16 bits, and its labels are distinct
pub record IsNumerable {A : Type 0} (func : Func A) : Type 0 where
  pub few_temps : length (temps_named func) ≤ 65535
  pub few_blocks : length func.blocks ≤ 65535
  pub labels : recorded [] (labels_in func.blocks) ≡ labels_in func.blocks

-- all functions are, and their names are distinct
pub record AreNumerable {A : Type 0} (p : Program A) : Type 0 where
  pub each : All IsNumerable p.funcs
  pub names : recorded [] (map (λ f. f.name) p.funcs) ≡ map (λ f. f.name) p.funcs

-- each function and each block is the one that its name finds, and no other function has its number
pub record Finds {A : Type 0} (p : Program A) : Type 0 where
  pub func : (i : ℕ) (f : Func A) → slice_get p.funcs i ≡ Some f → func_named p.funcs f.name ≡ Some f
  pub block : (i : ℕ) (f : Func A) (j : ℕ) (b : Block A) → slice_get p.funcs i ≡ Some f → slice_get f.blocks j ≡ Some b → block_labelled f.blocks b.label ≡ Some b
  pub number : (i : ℕ) (f : Func A) → slice_get p.funcs i ≡ Some f → place_of (map (λ f. f.name) p.funcs) f.name ≡ Some i

-- each block has its label's number among the labels of its function: no two blocks of a function have one label
pub record NumbersBlocks {A : Type 0} (p : Program A) : Type 0 where
  pub number : (i : ℕ) (f : Func A) (j : ℕ) (b : Block A) → slice_get p.funcs i ≡ Some f → slice_get f.blocks j ≡ Some b → number_in (labels_in f.blocks) b.label ≡ j

-- the labels that a jump names
abbrev pub jump_labels : JumpKind → List Name
jump_labels (jumps.Jmp l) = l ∷ []
jump_labels (jumps.Jnz a l m) = l ∷ (m ∷ [])
jump_labels (jumps.Ret a) = []
jump_labels jumps.Hlt = []

-- each label that a jump names is that of a block of its function
pub record KnowsLabels {A : Type 0} (p : Program A) : Type 0 where
  pub known : (i : ℕ) (f : Func A) (j : ℕ) (b : Block A) (l : Name) → slice_get p.funcs i ≡ Some f → slice_get f.blocks j ≡ Some b → IsAmong l (jump_labels b.jump.kind) → IsAmong l (labels_in f.blocks)

-- each temporary that a function names has a definition in its text, and so a class
pub record KnowsTemps {A : Type 0} (p : Program A) : Type 0 where
  pub known : (i : ℕ) (f : Func A) (s : ℕ) (x : Name) → slice_get p.funcs i ≡ Some f → slice_get (temps_named f) s ≡ Some x → class_in (func_occurrences f) x ≡ Some (class_of_temp f x)
