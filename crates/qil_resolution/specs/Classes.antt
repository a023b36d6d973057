-- The definitions of temporaries in a function, in the order of the text, and the class that is written at the first.
use Rattle.std.specs.Prelude.{List, [], ◌∷◌, ◌++◌, map, Option, Some, None}
use Rattle.std.specs.Option.{option_or}
use Rattle.std.specs.List.{flat_map}
use Rattle.qil_tree.specs.declared.ops.Class.{Class}
use Rattle.qil_tree.specs.declared.tree.Target.{Target}
use Rattle.qil_tree.specs.declared.tree.Param.{Param}
use Rattle.qil_tree.specs.declared.tree.Inst.{Inst}
use Rattle.qil_tree.specs.declared.tree.Block.{Block}
use Rattle.qil_tree.specs.declared.tree.Func.{Func}
use Rattle.qil_tree.specs.Types.{class_of}
use Rattle.qil_rules.specs.Operands.{inst_target}
use Rattle.qil_symbols.specs.Tables.{for_name}
use Rattle.qil_semantics.specs.State.{Name}

abbrev pub listed : Option Target → List Target
listed None = []
listed (Some to) = to ∷ []

abbrev pub param_target : Param → Target
param_target q = record { name = q.name; class = class_of q.abi_type }

abbrev pub inst_targets : {A : Type 0} → Inst A → List Target
inst_targets inst = listed (inst_target inst.kind)

abbrev pub block_targets : {A : Type 0} → Block A → List Target
block_targets b = map (λ phi. phi.target) b.phis ++ flat_map inst_targets b.insts

abbrev pub func_targets : {A : Type 0} → Func A → List Target
func_targets func = map param_target func.params ++ flat_map block_targets func.blocks

-- the class of the first target of a name
abbrev pub first_class : List Target → Name → Option Class
first_class [] x = None
first_class (to ∷ others) x = option_or (for_name to.name to.class x) (first_class others x)
