-- The temporaries of functions in the order of the text, computed. The orders were read from the texts by hand.
use Rattle.std.proofs.Common.{◌≡◌, refl, [], ◌∷◌, Some, None}
use Rattle.std.specs.Prelude.{codes}
use Rattle.qil_tree.specs.declared.ops.AbiType.TheVariants as types
use Rattle.qil_tree.specs.declared.ops.Width.TheVariants as widths
use Rattle.qil_tree.specs.declared.ops.UnaryOp.TheVariants as unary
use Rattle.qil_tree.specs.declared.ops.BinaryOp.TheVariants as binary
use Rattle.qil_tree.specs.declared.ops.LoadOp.TheVariants as loads
use Rattle.qil_tree.specs.declared.ops.AllocOp.TheVariants as allocs
use Rattle.qil_tree.specs.declared.tree.Expr.TheVariants as exprs
use Rattle.qil_tree.specs.declared.tree.InstKind.TheVariants as insts
use Rattle.qil_tree.specs.declared.tree.JumpKind.TheVariants as jumps
use Rattle.qil_tree.specs.declared.tree.Func.{Func}
use Rattle.qil_semantics.specs.Names.{temps_named, once}
use Rattle.qil_semantics.proofs.Programs.{A0, n, %, $, w, l, inst, arg, call, result, phi, source, block, param, func}

-- parameters, results and operands of calls, stores, copies and jumps; uses come before definitions that stand further on
abbrev all_places : Func A0
all_places =
    func (Some types.W) (codes "f") (param types.L (codes "p") ∷ (param types.W (codes "o") ∷ []))
    (
    block (codes "start") []
    (
    call (result (codes "r") types.W) (% (codes "p")) (arg types.W (% (codes "o")) ∷ (arg types.L (% (codes "late")) ∷ []))
    ∷ (inst (insts.Store widths.W (% (codes "s")) (% (codes "t"))) ∷ [])
    )
    (jumps.Jnz (% (codes "j")) (codes "m") (codes "e"))
    ∷ (
    block (codes "m") (phi (w (codes "a")) (source (codes "start") (% (codes "z")) ∷ (source (codes "m") (% (codes "a")) ∷ [])) ∷ (phi (l (codes "b")) (source (codes "start") ($ (codes "g")) ∷ (source (codes "m") (n 3) ∷ [])) ∷ []))
    (
    inst (insts.Assign (w (codes "c")) (exprs.Binary binary.Sub (% (codes "d")) (% (codes "b"))))
    ∷ (inst (insts.Assign (w (codes "late")) (exprs.Load loads.Sw (% (codes "b"))))
    ∷ (inst (insts.Blit (% (codes "u")) (% (codes "v")) 4) ∷ (inst (insts.Alloc (l (codes "x")) allocs.Eight (% (codes "y"))) ∷ [])))
    )
    (jumps.Jmp (codes "m"))
    ∷ (block (codes "e") [] (inst (insts.Assign (w (codes "z")) (exprs.Unary unary.Copy (n 1))) ∷ []) (jumps.Ret (Some (% (codes "q")))) ∷ [])
    )
    )

all_places-names : temps_named all_places ≡ codes "p" ∷ codes "o" ∷ codes "r" ∷ codes "late" ∷ codes "s" ∷ codes "t" ∷ codes "j" ∷ codes "a" ∷ codes "z" ∷ codes "b" ∷ codes "c" ∷ codes "d" ∷ codes "u" ∷ codes "v" ∷ codes "x" ∷ codes "y" ∷ codes "q" ∷ []
unfolding once
all_places-names = refl

no_names : temps_named (func None (codes "f") [] (block (codes "s") [] [] (jumps.Ret None) ∷ [])) ≡ []
unfolding once
no_names = refl
