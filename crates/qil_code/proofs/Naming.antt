-- Numbered parts whose names all have numbers, read back through the names, are the parts of the tree with globals as their addresses.
use Rattle.std.proofs.Common.{◌≡◌, refl, ap, List, [], ◌∷◌, ◌++◌, Option, Some, None}
use Rattle.std.specs.Prelude.{map, option_map}
use Rattle.std.specs.List.{flat_map}
use Rattle.qil_tree.specs.declared.ops.Class.{Class}
use Rattle.qil_tree.specs.declared.tree.Operand.{Operand}
use Rattle.qil_tree.specs.declared.tree.Operand.TheVariants as operands
use Rattle.qil_tree.specs.declared.tree.Target.{Target}
use Rattle.qil_tree.specs.declared.tree.Expr.{Expr}
use Rattle.qil_tree.specs.declared.tree.Expr.TheVariants as exprs
use Rattle.qil_tree.specs.declared.tree.CallResult.{CallResult}
use Rattle.qil_tree.specs.declared.tree.Argument.{Argument}
use Rattle.qil_tree.specs.declared.tree.InstKind.{InstKind}
use Rattle.qil_tree.specs.declared.tree.InstKind.TheVariants as insts
use Rattle.qil_tree.specs.declared.tree.JumpKind.{JumpKind}
use Rattle.qil_tree.specs.declared.tree.JumpKind.TheVariants as jumps
use Rattle.qil_tree.specs.declared.tree.Block.{Block}
use Rattle.qil_tree.specs.declared.tree.Program.{Program}
use Rattle.qil_rules.specs.Operands.{Read, expr_reads, inst_reads, inst_target, call_target}
use Rattle.qil_semantics.specs.State.{Name}
use Rattle.qil_semantics.specs.Names.{operand_names, target_names, jump_names}
use Rattle.qil_semantics.specs.Step as step
use Rattle.qil_code.specs.Facts.{jump_labels}
use Rattle.qil_code.specs.Gather.{labels_in, arguments_names}
use Rattle.qil_code.specs.Numbered.{slot_in, operand_of, expr_of, receiver_of, argument_of, kind_of, move_of, jump_of}
use Rattle.qil_code.specs.Named.{named_operand, named_target, named_expr, named_receiver, named_argument, named_inst, named_move, named_jump, resolved, resolved_expr, resolved_argument, resolved_inst, resolved_move, resolved_jump}
use Rattle.qil_code.proofs.Has.{Has, HasAll, HasAll-left, HasAll-right, name-number}

-- ---- operands and targets

pub named-operand : {A : Type 0} (p : Program A) (ns : List Name) (a : Operand) → HasAll ns (operand_names a) → named_operand ns (operand_of p ns a) ≡ resolved p a
named-operand p ns (operands.Number n) h = refl
named-operand p ns (operands.Global g) h = refl
named-operand p ns (operands.Temp x) h = ap (λ y. operands.Temp y) (name-number ns x h.0)

pub named-target : (ns : List Name) (to : Target) → Has ns to.name → named_target ns (slot_in ns to.name) to.class ≡ to
named-target ns to h = λ i. record { name = name-number ns to.name h i; class = to.class }

-- the first of some operands, and the one after it
first_operand : {A : Type 0} (p : Program A) (ns : List Name) (a : Operand) (more : List Name) → HasAll ns (operand_names a ++ more) → named_operand ns (operand_of p ns a) ≡ resolved p a
first_operand p ns a more h = named-operand p ns a (HasAll-left ns (operand_names a) more h)

second_operand : {A : Type 0} (p : Program A) (ns : List Name) (a b : Operand) → HasAll ns (operand_names a ++ (operand_names b ++ [])) → named_operand ns (operand_of p ns b) ≡ resolved p b
second_operand p ns a b h = first_operand p ns b [] (HasAll-right ns (operand_names a) (operand_names b ++ []) h)

-- ---- instructions

abbrev pub reads_names : List Read → List Name
reads_names rs = flat_map (λ r. operand_names r.operand) rs

pub named-expr : {A : Type 0} (p : Program A) (ns : List Name) (c : Class) (e : Expr) → HasAll ns (reads_names (expr_reads c e)) → named_expr ns (expr_of p ns e) ≡ resolved_expr p e
named-expr p ns c (exprs.Unary op a) h = λ i. exprs.Unary op (first_operand p ns a [] h i)
named-expr p ns c (exprs.Binary op a b) h = λ i. exprs.Binary op (first_operand p ns a (operand_names b ++ []) h i) (second_operand p ns a b h i)
named-expr p ns c (exprs.Compare op d a b) h = λ i. exprs.Compare op d (first_operand p ns a (operand_names b ++ []) h i) (second_operand p ns a b h i)
named-expr p ns c (exprs.Extend op a) h = λ i. exprs.Extend op (first_operand p ns a [] h i)
named-expr p ns c (exprs.Load op a) h = λ i. exprs.Load op (first_operand p ns a [] h i)

pub named-arguments : {A : Type 0} (p : Program A) (ns : List Name) (args : List Argument) → HasAll ns (arguments_names args)
    → map (named_argument ns) (map (argument_of p ns) args) ≡ map (resolved_argument p) args
named-arguments p ns [] h = refl
named-arguments p ns (a ∷ args) h = λ i.
    record { abi_type = a.abi_type; value = first_operand p ns a.value (arguments_names args) h i }
    ∷ named-arguments p ns args (HasAll-right ns (operand_names a.value) (arguments_names args) h) i

pub named-receiver : (ns : List Name) (r : CallResult) → Has ns r.name → named_receiver ns (receiver_of ns r) ≡ r
named-receiver ns r h = λ i. record { name = name-number ns r.name h i; abi_type = r.abi_type }

named_receivers : (ns : List Name) (to : Option CallResult) → HasAll ns (target_names (option_map call_target to)) → option_map (named_receiver ns) (option_map (receiver_of ns) to) ≡ to
named_receivers ns None h = refl
named_receivers ns (Some r) h = ap (λ q. Some q) (named-receiver ns r h.0)

-- the names in an instruction
abbrev pub kind_names : {A : Type 0} → InstKind A → List Name
kind_names kind = target_names (inst_target kind) ++ reads_names (inst_reads kind)

pub named-kind : {A : Type 0} (p : Program A) (ns : List Name) (kind : InstKind A) → HasAll ns (kind_names kind) → named_inst ns (kind_of p ns kind) ≡ resolved_inst p kind
named-kind p ns (insts.Assign to e) h = λ i. insts.Assign (named-target ns to h.0 i) (named-expr p ns to.class e h.1 i)
named-kind p ns (insts.Alloc to op n) h = λ i. insts.Alloc (named-target ns to h.0 i) op (first_operand p ns n [] h.1 i)
named-kind p ns (insts.Store width a b) h = λ i. insts.Store width (first_operand p ns a (operand_names b ++ []) h i) (second_operand p ns a b h i)
named-kind p ns (insts.Blit a b n) h = λ i. insts.Blit (first_operand p ns a (operand_names b ++ []) h i) (second_operand p ns a b h i) n
named-kind p ns (insts.Call to callee args) h =
    let set = target_names (option_map call_target to) in
    let read = operand_names callee ++ arguments_names args in
    let reads : HasAll ns read = HasAll-right ns set read h in
    λ i.
    insts.Call (named_receivers ns to (HasAll-left ns set read h) i) (first_operand p ns callee (arguments_names args) reads i)
    (named-arguments p ns args (HasAll-right ns (operand_names callee) (arguments_names args) reads) i)

-- ---- moves and jumps

pub named-move : {A : Type 0} (p : Program A) (ns : List Name) (m : step.PhiMove) → HasAll ns (m.target.name ∷ operand_names m.value) → named_move ns (move_of p ns m) ≡ resolved_move p m
named-move p ns m h = λ i. record { target = named-target ns m.target h.0 i; value = named-operand p ns m.value h.1 i }

-- a jump whose labels are those of blocks
pub named-jump-kind : {A : Type 0} (p : Program A) (blocks : List (Block A)) (ns : List Name) (left : Name) (j : JumpKind)
    → HasAll ns (jump_names j) → HasAll (labels_in blocks) (jump_labels j) → named_jump ns (labels_in blocks) (jump_of p blocks ns left j) ≡ resolved_jump p j
named-jump-kind p blocks ns left (jumps.Jmp l) h k = λ i. jumps.Jmp (name-number (labels_in blocks) l k.0 i)
named-jump-kind p blocks ns left (jumps.Jnz a l m) h k = λ i.
    jumps.Jnz (named-operand p ns a h i) (name-number (labels_in blocks) l k.0 i) (name-number (labels_in blocks) m k.1.0 i)
named-jump-kind p blocks ns left (jumps.Ret None) h k = refl
named-jump-kind p blocks ns left (jumps.Ret (Some a)) h k = λ i. jumps.Ret (Some (named-operand p ns a h i))
named-jump-kind p blocks ns left jumps.Hlt h k = refl
