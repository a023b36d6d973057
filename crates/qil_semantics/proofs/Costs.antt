-- Costs, computed. What is expected is counted by hand.
use Rattle.std.proofs.Common.{◌≡◌, refl, ℕ, [], ◌∷◌, Option, Some, None}
use Rattle.std.specs.Prelude.{codes}
use Rattle.qil_tree.specs.declared.ops.AbiType.TheVariants as types
use Rattle.qil_tree.specs.declared.ops.Width.TheVariants as widths
use Rattle.qil_tree.specs.declared.ops.BinaryOp.TheVariants as binary
use Rattle.qil_tree.specs.declared.ops.AllocOp.TheVariants as allocs
use Rattle.qil_tree.specs.declared.tree.Expr.TheVariants as exprs
use Rattle.qil_tree.specs.declared.tree.InstKind.TheVariants as insts
use Rattle.qil_tree.specs.declared.tree.JumpKind.TheVariants as jumps
use Rattle.qil_tree.specs.declared.tree.Program.{Program}
use Rattle.qil_semantics.specs.Start.{start_of}
use Rattle.qil_semantics.specs.Names.{once}
use Rattle.qil_semantics.specs.Targets.{after}
use Rattle.qil_semantics.specs.Cost.{cost_of}
use Rattle.qil_semantics.proofs.Programs.{A0, n, %, $, w, l, inst, arg, call, result, phi, source, block, param, func, prog, of_start, straight, runs}

-- what the step costs after so many others
abbrev cost_after : Program A0 → ℕ → Option ℕ
cost_after p k = of_start (λ s. cost_of p (after p s k)) (start_of p (codes "main") [])

-- what is opened where a cost is computed
unfoldable costs : ℕ
unfolding runs cost_of once
costs = 0

-- `add` 6, `alloc16 16` at the bottom of the stack 22, `storew` 8, a `blit` of 8 bytes 12, a return that nothing takes 4 and
-- 1 for each of the two temporaries
abbrev memory_text : Program A0
memory_text = straight (inst (insts.Assign (w (codes "x")) (exprs.Binary binary.Add (n 1) (n 2))) ∷ inst (insts.Alloc (l (codes "p")) allocs.Sixteen (n 16))
    ∷ inst (insts.Store widths.W (% (codes "x")) (% (codes "p"))) ∷ inst (insts.Blit (% (codes "p")) (% (codes "p")) 8) ∷ [])

adding : cost_after memory_text 0 ≡ Some 6
unfolding costs
adding = refl

allocating : cost_after memory_text 1 ≡ Some 22
unfolding costs
allocating = refl

storing : cost_after memory_text 2 ≡ Some 8
unfolding costs
storing = refl

copying : cost_after memory_text 3 ≡ Some 12
unfolding costs
copying = refl

ending : cost_after memory_text 4 ≡ Some 6
unfolding costs
ending = refl

-- a jump to two phis 8, also back to them; one that leaves them after 4
abbrev phis_text : Program A0
phis_text = prog [] (func None (codes "main") [] (block (codes "s") [] [] (jumps.Jmp (codes "t"))
    ∷ block (codes "t") (phi (w (codes "a")) (source (codes "s") (n 0) ∷ source (codes "t") (% (codes "b")) ∷ []) ∷ phi (w (codes "b")) (source (codes "s") (n 1) ∷ source (codes "t") (% (codes "a")) ∷ []) ∷ [])
    [] (jumps.Jnz (% (codes "a")) (codes "u") (codes "t")) ∷ block (codes "u") [] [] (jumps.Ret None) ∷ []) ∷ [])

two_phis : cost_after phis_text 0 ≡ Some 8
unfolding costs
two_phis = refl

two_phis_again : cost_after phis_text 1 ≡ Some 8
unfolding costs
two_phis_again = refl

no_phi : cost_after phis_text 2 ≡ Some 4
unfolding costs
no_phi = refl

-- a call of a function 4, whatever its parameters; its return into a result 4, 2 for that, and 1 for its temporary; a result
-- of a function that every program has 6, a fault 4
abbrev calls_text : Program A0
calls_text = prog [] (func (Some types.W) (codes "f") (param types.W (codes "a") ∷ []) (block (codes "s") [] [] (jumps.Ret (Some (% (codes "a")))) ∷ [])
    ∷ func None (codes "main") [] (block (codes "s") [] (call (result (codes "x") types.W) ($ (codes "f")) (arg types.W (n 65) ∷ [])
    ∷ call (result (codes "y") types.W) ($ (codes "putchar")) (arg types.W (n 65) ∷ []) ∷ call None ($ (codes "putchar")) (arg types.W (n 65) ∷ [])
    ∷ inst (insts.Store widths.L (n 1) (n 0)) ∷ []) (jumps.Ret None) ∷ []) ∷ [])

calling : cost_after calls_text 0 ≡ Some 4
unfolding costs
calling = refl

returning : cost_after calls_text 1 ≡ Some 7
unfolding costs
returning = refl

writing : cost_after calls_text 2 ≡ Some 6
unfolding costs
writing = refl

writing_alone : cost_after calls_text 3 ≡ Some 4
unfolding costs
writing_alone = refl

faulting : cost_after calls_text 4 ≡ Some 4
unfolding costs
faulting = refl
