-- Numbered parts whose names all have numbers have slots that are there, and edges to blocks that are there.
use Rattle.std.proofs.Common.{sym, ap, subst, ◌<◌, List, [], ◌∷◌, ◌++◌, length, Option, Some, None}
use Rattle.std.specs.Prelude.{map, option_map, unwrap_or}
use Rattle.std.specs.List.{All, flat_map}
use Rattle.std.proofs.lemmas.List.Elements.{All-nil, All-cons, All-map}
use Rattle.std.proofs.lemmas.Option.{slice_get_within}
use Rattle.qil_tree.specs.declared.ops.Class.{Class}
use Rattle.qil_tree.specs.declared.tree.Operand.{Operand}
use Rattle.qil_tree.specs.declared.tree.Operand.TheVariants as operands
use Rattle.qil_tree.specs.declared.tree.Expr.{Expr}
use Rattle.qil_tree.specs.declared.tree.Expr.TheVariants as exprs
use Rattle.qil_tree.specs.declared.tree.CallResult.{CallResult}
use Rattle.qil_tree.specs.declared.tree.Argument.{Argument}
use Rattle.qil_tree.specs.declared.tree.Inst.{Inst}
use Rattle.qil_tree.specs.declared.tree.InstKind.{InstKind}
use Rattle.qil_tree.specs.declared.tree.InstKind.TheVariants as insts
use Rattle.qil_tree.specs.declared.tree.Param.{Param}
use Rattle.qil_tree.specs.declared.tree.JumpKind.{JumpKind}
use Rattle.qil_tree.specs.declared.tree.JumpKind.TheVariants as jumps
use Rattle.qil_tree.specs.declared.tree.Block.{Block}
use Rattle.qil_tree.specs.declared.tree.Program.{Program}
use Rattle.qil_rules.specs.Operands.{expr_reads, call_target}
use Rattle.qil_semantics.specs.State.{Name}
use Rattle.qil_semantics.specs.Names.{operand_names, target_names, phi_names, inst_names, jump_names, block_names}
use Rattle.qil_semantics.specs.Step.{block_labelled}
use Rattle.qil_semantics.specs.Step as step
use Rattle.qil_code.specs.declared.numbered.NumberedArgument.{NumberedArgument}
use Rattle.qil_code.specs.Facts.{jump_labels}
use Rattle.qil_code.specs.Gather.{labels_in, arguments_names, param_names}
use Rattle.qil_code.specs.Slots.{number_in}
use Rattle.qil_code.specs.Numbered.{operand_of, expr_of, receiver_of, argument_of, kind_of, inst_of, move_of, moves_into, edge_of, jump_of, block_of, param_of}
use Rattle.qil_code.specs.Ranges.{InRange, ExprInRange, ReceiverInRange, InstInRange, MoveInRange, IsShort, EdgeInRange, JumpInRange, BlockInRange, JumpIsShort, BlockIsShort}
use Rattle.qil_code.proofs.Edges.{label-found}
use Rattle.qil_code.proofs.Has.{Has, HasAll, HasAll-left, HasAll-right, HasAll-part, name-at}
use Rattle.qil_code.proofs.Naming.{reads_names, kind_names}
use Rattle.qil_code.proofs.PhiMoves.{HasMove, moves-have, moves-of-tree}

-- ---- operands

pub number-below : (ns : List Name) (x : Name) → Has ns x → number_in ns x < length ns
number-below ns x h = subst (λ n. n < length ns) (sym (ap (λ o. unwrap_or o 0) h.1)) (slice_get_within ns h.0 x (name-at ns x h.0 h.1))

pub operand-range : {A : Type 0} (p : Program A) (ns : List Name) (a : Operand) → HasAll ns (operand_names a) → InRange (length ns) (operand_of p ns a)
operand-range p ns (operands.Number n) h = tt
operand-range p ns (operands.Global g) h = tt
operand-range p ns (operands.Temp x) h = number-below ns x h.0

-- the first of some operands, and the one after it
first_range : {A : Type 0} (p : Program A) (ns : List Name) (a : Operand) (more : List Name) → HasAll ns (operand_names a ++ more) → InRange (length ns) (operand_of p ns a)
first_range p ns a more h = operand-range p ns a (HasAll-left ns (operand_names a) more h)

second_range : {A : Type 0} (p : Program A) (ns : List Name) (a b : Operand) → HasAll ns (operand_names a ++ (operand_names b ++ [])) → InRange (length ns) (operand_of p ns b)
second_range p ns a b h = first_range p ns b [] (HasAll-right ns (operand_names a) (operand_names b ++ []) h)

-- ---- instructions

pub expr-range : {A : Type 0} (p : Program A) (ns : List Name) (c : Class) (e : Expr) → HasAll ns (reads_names (expr_reads c e)) → ExprInRange (length ns) (expr_of p ns e)
expr-range p ns c (exprs.Unary op a) h = first_range p ns a [] h
expr-range p ns c (exprs.Binary op a b) h = (first_range p ns a (operand_names b ++ []) h, second_range p ns a b h)
expr-range p ns c (exprs.Compare op d a b) h = (first_range p ns a (operand_names b ++ []) h, second_range p ns a b h)
expr-range p ns c (exprs.Extend op a) h = first_range p ns a [] h
expr-range p ns c (exprs.Load op a) h = first_range p ns a [] h

arguments_range : {A : Type 0} (p : Program A) (ns : List Name) (args : List Argument) → HasAll ns (arguments_names args) → All (λ (a : NumberedArgument). InRange (length ns) a.source) (map (argument_of p ns) args)
arguments_range p ns [] h = All-nil (λ a. InRange (length ns) a.source)
arguments_range p ns (a ∷ args) h =
    All-cons (λ a. InRange (length ns) a.source) (argument_of p ns a) (map (argument_of p ns) args)
    (first_range p ns a.value (arguments_names args) h) (arguments_range p ns args (HasAll-right ns (operand_names a.value) (arguments_names args) h))

receiver_range : (ns : List Name) (to : Option CallResult) → HasAll ns (target_names (option_map call_target to)) → ReceiverInRange (length ns) (option_map (receiver_of ns) to)
receiver_range ns None h = tt
receiver_range ns (Some r) h = number-below ns r.name h.0

pub kind-range : {A : Type 0} (p : Program A) (ns : List Name) (kind : InstKind A) → HasAll ns (kind_names kind) → InstInRange (length ns) (kind_of p ns kind)
kind-range p ns (insts.Assign to e) h = (number-below ns to.name h.0, expr-range p ns to.class e h.1)
kind-range p ns (insts.Alloc to op n) h = (number-below ns to.name h.0, first_range p ns n [] h.1)
kind-range p ns (insts.Store width a b) h = (first_range p ns a (operand_names b ++ []) h, second_range p ns a b h)
kind-range p ns (insts.Blit a b n) h = (first_range p ns a (operand_names b ++ []) h, second_range p ns a b h)
kind-range p ns (insts.Call to callee args) h =
    let set = target_names (option_map call_target to) in
    let read = operand_names callee ++ arguments_names args in
    let reads : HasAll ns read = HasAll-right ns set read h in (
      receiver_range ns to (HasAll-left ns set read h),
      first_range p ns callee (arguments_names args) reads,
      arguments_range p ns args (HasAll-right ns (operand_names callee) (arguments_names args) reads),
    )

insts_range : {A : Type 0} (p : Program A) (ns : List Name) (is : List (Inst A)) → HasAll ns (flat_map inst_names is) → All (InstInRange (length ns)) (map (inst_of p ns) is)
insts_range p ns [] h = All-nil (InstInRange (length ns))
insts_range p ns (inst ∷ is) h =
    All-cons (InstInRange (length ns)) (inst_of p ns inst) (map (inst_of p ns) is)
    (kind-range p ns inst.kind (HasAll-left ns (inst_names inst) (flat_map inst_names is) h)) (insts_range p ns is (HasAll-right ns (inst_names inst) (flat_map inst_names is) h))

-- ---- moves and edges

move_range : {A : Type 0} (p : Program A) (ns : List Name) (m : step.PhiMove) → HasMove ns m → MoveInRange (length ns) (move_of p ns m)
move_range p ns m h = record { target = number-below ns m.target.name h.0; source = operand-range p ns m.value h.1 }

moves_range : {A : Type 0} (p : Program A) (ns : List Name) (ms : List step.PhiMove) → All (HasMove ns) ms → All (MoveInRange (length ns)) (map (move_of p ns) ms)
moves_range p ns ms h = All-map (MoveInRange (length ns)) (move_of p ns) ms (λ i d lt. move_range p ns _ (h i d lt))

pub edge-range : {A : Type 0} (p : Program A) (blocks : List (Block A)) (ns : List Name) (left l : Name) → HasAll ns (flat_map block_names blocks) → Has (labels_in blocks) l
    → IsShort (edge_of p blocks ns left l).moves → EdgeInRange (length ns) (length (labels_in blocks)) (edge_of p blocks ns left l)
edge-range p blocks ns left l h known short =
    let d = label-found blocks l known.0 known.1 in
    let names : HasAll ns (block_names d.block) = HasAll-part ns block_names blocks known.0 d.block d.there h in
    let moves : All (MoveInRange (length ns)) (moves_into p ns left (Some d.block)) =
    subst (λ ms. All (MoveInRange (length ns)) ms) (sym (moves-of-tree p ns left d.block.phis)) (moves_range p ns _ (moves-have ns left d.block names)) in
    record { to = number-below (labels_in blocks) l known; moves = subst (λ o. All (MoveInRange (length ns)) (moves_into p ns left o)) (sym d.found) moves; short = short }

-- ---- jumps and blocks

pub jump-range : {A : Type 0} (p : Program A) (blocks : List (Block A)) (ns : List Name) (left : Name) (j : JumpKind) → HasAll ns (flat_map block_names blocks)
    → HasAll ns (jump_names j) → HasAll (labels_in blocks) (jump_labels j) → JumpIsShort (jump_of p blocks ns left j) → JumpInRange (length ns) (length (labels_in blocks)) (jump_of p blocks ns left j)
jump-range p blocks ns left (jumps.Jmp l) all h k short = edge-range p blocks ns left l all k.0 short
jump-range p blocks ns left (jumps.Jnz a l m) all h k short =
    (operand-range p ns a h, edge-range p blocks ns left l all k.0 short.0, edge-range p blocks ns left m all k.1.0 short.1)
jump-range p blocks ns left (jumps.Ret None) all h k short = tt
jump-range p blocks ns left (jumps.Ret (Some a)) all h k short = operand-range p ns a h
jump-range p blocks ns left jumps.Hlt all h k short = tt

pub block-range : {A : Type 0} (p : Program A) (blocks : List (Block A)) (ns : List Name) (b : Block A) → HasAll ns (flat_map block_names blocks)
    → HasAll ns (block_names b) → HasAll (labels_in blocks) (jump_labels b.jump.kind) → BlockIsShort (block_of p blocks ns b) → BlockInRange (length ns) (length (labels_in blocks)) (block_of p blocks ns b)
block-range p blocks ns b all h k short =
    let insts = flat_map inst_names b.insts in
    let jump = jump_names b.jump.kind in
    let rest : HasAll ns (insts ++ jump) = HasAll-right ns (flat_map phi_names b.phis) (insts ++ jump) h in
    record {
      insts = insts_range p ns b.insts (HasAll-left ns insts jump rest);
      jump = jump-range p blocks ns b.label b.jump.kind all (HasAll-right ns insts jump rest) k short.jump;
      short = short.insts;
    }

-- ---- parameters

pub params-range : (ns : List Name) (qs : List Param) → HasAll ns (param_names qs) → All (λ q. q.0.index < length ns) (map (param_of ns) qs)
params-range ns [] h = All-nil (λ q. q.0.index < length ns)
params-range ns (q ∷ qs) h = All-cons (λ q. q.0.index < length ns) (param_of ns q) (map (param_of ns) qs) (number-below ns q.name h.0) (params-range ns qs h.1)
