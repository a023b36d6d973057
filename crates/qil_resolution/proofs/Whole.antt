-- The code of a function, put together from its parts.
use Rattle.std.proofs.Common.{◌≡◌, ◌∙◌, ap, List}
use Rattle.std.specs.Prelude.{map, Option}
use Rattle.qil_tree.specs.declared.ops.AbiType.{AbiType}
use Rattle.qil_tree.specs.declared.ops.Class.{Class}
use Rattle.qil_tree.specs.declared.tree.Func.{Func}
use Rattle.qil_tree.specs.declared.tree.Program.{Program}
use Rattle.qil_semantics.specs.State.{Name}
use Rattle.qil_semantics.specs.Names.{temps_named}
use Rattle.qil_code.specs.declared.numbered.Slot.{Slot}
use Rattle.qil_code.specs.declared.numbered.NumberedBlock.{NumberedBlock}
use Rattle.qil_code.specs.declared.numbered.NumberedFunc.{NumberedFunc}
use Rattle.qil_code.specs.declared.numbered.FuncCode.{FuncCode}
use Rattle.qil_code.specs.Gather.{labels_in}
use Rattle.qil_code.specs.Numbered.{class_of_temp, param_of, block_of, func_with, func_of, func_code}

pub func-is : {A : Type 0} (p : Program A) (func : Func A) (classes : List Class) (params : List (Slot × AbiType)) (blocks : List (NumberedBlock A)) (temps : List Name) (code : NumberedFunc A)
    → classes ≡ map (class_of_temp func) temps → params ≡ map (param_of temps) func.params → blocks ≡ map (block_of p func.blocks temps) func.blocks
    → code ≡ record { classes = classes; params = params; returns = func.returns; blocks = blocks } → code ≡ func_with p func temps
func-is p func classes params blocks temps code c q b e = e ∙ (λ i. record { classes = c i; params = q i; returns = func.returns; blocks = b i })

pub code-is : {A : Type 0} (p : Program A) (func : Func A) (k : NumberedFunc A) (temps labels : List Name)
    → temps ≡ temps_named func → labels ≡ labels_in func.blocks → k ≡ func_with p func temps → record { code = k; temps = temps; labels = labels } ≡ func_code p func
unfolding func_of func_code
code-is p func k temps labels t l e = λ i. record { code = (e ∙ ap (func_with p func) t) i; temps = t i; labels = l i }

pub codes-are : {A : Type 0} (p image : Program A) (funcs : List (Func A)) (ks : List (FuncCode A)) → ks ≡ map (func_code image) funcs → funcs ≡ p.funcs → image ≡ p → ks ≡ map (func_code p) p.funcs
codes-are p image funcs ks is same whole = is ∙ ap (λ fs. map (func_code image) fs) same ∙ ap (λ q. map (func_code q) p.funcs) whole
