-- The temporaries of a function, in the order in which its text first names them.
use Rattle.std.specs.Prelude.{not, List, [], ◌∷◌, ◌++◌, map, filter, flat_map, Option, Some, None}
use Rattle.std.specs.Str.{bytes_eq}
use Rattle.qil_tree.specs.declared.tree.Operand.{Operand}
use Rattle.qil_tree.specs.declared.tree.Operand.TheVariants as operands
use Rattle.qil_tree.specs.declared.tree.Target.{Target}
use Rattle.qil_tree.specs.declared.tree.Phi.{Phi}
use Rattle.qil_tree.specs.declared.tree.Inst.{Inst}
use Rattle.qil_tree.specs.declared.tree.JumpKind.{JumpKind}
use Rattle.qil_tree.specs.declared.tree.JumpKind.TheVariants as jumps
use Rattle.qil_tree.specs.declared.tree.Block.{Block}
use Rattle.qil_tree.specs.declared.tree.Func.{Func}
use Rattle.qil_memory.specs.qil_rules.Operands.{inst_reads, inst_target}
use Rattle.qil_semantics.specs.State.{Name}

abbrev pub operand_names : Operand → List Name
operand_names (operands.Number n) = []
operand_names (operands.Global g) = []
operand_names (operands.Temp x) = x ∷ []

abbrev pub target_names : Option Target → List Name
target_names None = []
target_names (Some to) = to.name ∷ []

abbrev pub phi_names : {A : Type 0} → Phi A → List Name
phi_names phi = phi.target.name ∷ flat_map (λ q. operand_names q.value) phi.sources

abbrev pub inst_names : {A : Type 0} → Inst A → List Name
inst_names inst = target_names (inst_target inst.kind) ++ flat_map (λ r. operand_names r.operand) (inst_reads inst.kind)

abbrev pub jump_names : JumpKind → List Name
jump_names (jumps.Jmp l) = []
jump_names (jumps.Jnz a l m) = operand_names a
jump_names (jumps.Ret None) = []
jump_names (jumps.Ret (Some a)) = operand_names a
jump_names jumps.Hlt = []

abbrev pub block_names : {A : Type 0} → Block A → List Name
block_names b = flat_map phi_names b.phis ++ (flat_map inst_names b.insts ++ jump_names b.jump.kind)

-- each name once, at its first place
unfoldable pub once : List Name → List Name
once [] = []
once (x ∷ xs) = x ∷ filter (λ y. not (bytes_eq x y)) (once xs)

abbrev pub temps_named : {A : Type 0} → Func A → List Name
temps_named func = once (map (λ q. q.name) func.params ++ flat_map block_names func.blocks)
