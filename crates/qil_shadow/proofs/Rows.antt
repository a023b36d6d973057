-- Worked rows, computed: which moves of small programs are suspicious. What is expected was worked out by another implementation.
use Rattle.std.proofs.Common.{◌≡◌, refl, ℕ, List, [], ◌∷◌, Option, Some, None, option_map, map}
use Rattle.std.specs.Prelude.{codes}
use Rattle.qil_symbols.specs.Numbers.{place_of}
use Rattle.qil_tree.specs.declared.ops.AbiType.TheVariants as types
use Rattle.qil_tree.specs.declared.ops.Width.TheVariants as widths
use Rattle.qil_tree.specs.declared.ops.UnaryOp.TheVariants as unary
use Rattle.qil_tree.specs.declared.ops.BinaryOp.TheVariants as binary
use Rattle.qil_tree.specs.declared.ops.LoadOp.TheVariants as loads
use Rattle.qil_tree.specs.declared.ops.AllocOp.TheVariants as allocs
use Rattle.qil_tree.specs.declared.tree.Expr.TheVariants as exprs
use Rattle.qil_tree.specs.declared.tree.InstKind.TheVariants as insts
use Rattle.qil_tree.specs.declared.tree.JumpKind.TheVariants as jumps
use Rattle.qil_tree.specs.declared.tree.Item.TheVariants as items
use Rattle.qil_tree.specs.declared.tree.Field.TheVariants as fields
use Rattle.qil_tree.specs.declared.tree.Func.{Func}
use Rattle.qil_tree.specs.declared.tree.Program.{Program}
use Rattle.qil_semantics.specs.State.{State}
use Rattle.qil_semantics.specs.Start.{start_of}
use Rattle.qil_semantics.specs.Step.{func_named}
use Rattle.qil_semantics.proofs.Programs.{A0, n, %, $, w, l, inst, call, result, block, func, data_, prog, of_start, runs}
use Rattle.qil_shadow.specs.declared.access.Kind.{Kind}
use Rattle.qil_shadow.specs.declared.access.Kind.TheVariants as kinds
use Rattle.qil_shadow.specs.Bytes.{laid_origins}
use Rattle.qil_shadow.specs.Objects.{ObjectKind, of_data, of_slot}
use Rattle.qil_shadow.specs.Shadow.{with_origin, shadow_at_start}
use Rattle.qil_shadow.specs.Shadowed.{shadowed}
use Rattle.qil_shadow.specs.Accesses.{accesses_of}
use Rattle.qil_shadow.specs.Suspicions.{Suspicion, Hit, into, dead, suspicions_of, suspicions}

-- by which move, of which kind, through the address of what, and what was hit
abbrev told : Suspicion → ℕ × Kind × Option ObjectKind × Hit
told s = (s.position, s.kind, option_map (λ o. o.kind) s.object, s.hit)

abbrev told_from : Program A0 → ℕ → Option (Func A0) → State → List (ℕ × Kind × Option ObjectKind × Hit)
told_from p k None s = []
told_from p k (Some f) s = map told (suspicions p s (shadow_at_start p f) k)

-- of so many moves from `$main`
abbrev told_of : Program A0 → ℕ → Option (List (ℕ × Kind × Option ObjectKind × Hit))
told_of p k = of_start (told_from p k (func_named p.funcs (codes "main"))) (start_of p (codes "main") [])

-- what is opened where suspicions are computed
unfoldable shadows : ℕ
unfolding runs place_of laid_origins with_origin shadowed accesses_of suspicions_of
shadows = 0

-- a store through the address of one object lands in the next
abbrev past : Program A0
past = prog
    ((data_ (codes "a") None ((fields.Values widths.W ((items.Number 1) ∷ [])) ∷ [])) ∷ (data_ (codes "b") None ((fields.Values widths.W ((items.Number 2) ∷ [])) ∷ [])) ∷ [])
    ((func None (codes "main") [] ((block (codes "start") []
    ((inst (insts.Assign (l (codes "p")) (exprs.Binary binary.Add ($ (codes "a")) (n 16)))) ∷ (inst (insts.Store widths.W (n 7) (% (codes "p")))) ∷ (inst (insts.Store widths.W (n 7) ($ (codes "b")))) ∷ [])
    (jumps.Ret None)) ∷ [])) ∷ [])

past-3 : told_of past 3 ≡ Some ((1, kinds.Bounds, Some (of_data (codes "a")), into (of_data (codes "b")) 0) ∷ [])
unfolding shadows
past-3 = refl

-- a slot is loaded after its function returned
abbrev returned : Program A0
returned = prog []
    ((func None (codes "main") [] ((block (codes "start") []
    ((call (result (codes "p") types.L) ($ (codes "f")) []) ∷ (inst (insts.Assign (l (codes "q")) (exprs.Unary unary.Copy (% (codes "p"))))) ∷ (inst (insts.Assign (l (codes "s")) (exprs.Binary binary.Sub (% (codes "q")) (% (codes "p"))))) ∷ (inst (insts.Assign (w (codes "t")) (exprs.Load loads.Sw (% (codes "q"))))) ∷ [])
    (jumps.Ret None)) ∷ []))
    ∷ (func (Some types.L) (codes "f") [] ((block (codes "start") []
    ((inst (insts.Assign (l (codes "z")) (exprs.Unary unary.Copy (n 0)))) ∷ (inst (insts.Alloc (l (codes "x")) allocs.Eight (n 8))) ∷ (inst (insts.Store widths.L (n 1) (% (codes "x")))) ∷ [])
    (jumps.Ret (Some (% (codes "x"))))) ∷ [])) ∷ [])

returned-8 : told_of returned 8 ≡ Some ((7, kinds.Stale, Some (of_slot (codes "f") (codes "x")), dead) ∷ [])
unfolding shadows
returned-8 = refl
