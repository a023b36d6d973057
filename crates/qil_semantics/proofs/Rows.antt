-- Worked rows, computed. What is expected was worked out by another implementation of the meaning.
use Rattle.std.proofs.Common.{◌≡◌, refl, ℕ, [], ◌∷◌, Option, Some, None}
use Rattle.std.specs.Prelude.{codes}
use Rattle.qil_tree.specs.declared.ops.AbiType.TheVariants as types
use Rattle.qil_tree.specs.declared.ops.Width.TheVariants as widths
use Rattle.qil_tree.specs.declared.ops.Class.TheVariants as classes
use Rattle.qil_tree.specs.declared.ops.UnaryOp.TheVariants as unary
use Rattle.qil_tree.specs.declared.ops.BinaryOp.TheVariants as binary
use Rattle.qil_tree.specs.declared.ops.CompareOp.TheVariants as compares
use Rattle.qil_tree.specs.declared.ops.Extension.TheVariants as extensions
use Rattle.qil_tree.specs.declared.ops.LoadOp.TheVariants as loads
use Rattle.qil_tree.specs.declared.ops.AllocOp.TheVariants as allocs
use Rattle.qil_tree.specs.declared.tree.Expr.TheVariants as exprs
use Rattle.qil_tree.specs.declared.tree.InstKind.TheVariants as insts
use Rattle.qil_tree.specs.declared.tree.JumpKind.TheVariants as jumps
use Rattle.qil_tree.specs.declared.tree.Item.TheVariants as items
use Rattle.qil_tree.specs.declared.tree.Field.TheVariants as fields
use Rattle.qil_tree.specs.declared.tree.Program.{Program}
use Rattle.qil_ops.specs.declared.division.DivFault.TheVariants.{Overflow}
use Rattle.qil_semantics.specs.State.{running, done, exited, faulted, division, dead_address, unset_temporary, overlapping_blit, stack_full, calls_too_deep, no_function, call_shape, halted}
use Rattle.qil_semantics.proofs.Programs.{A0, n, %, $, w, l, inst, arg, call, result, phi, source, block, param, func, data_, prog, view, of_start, runs}
use Rattle.qil_semantics.specs.State.{Status}
use Rattle.qil_semantics.specs.Start.{start_of}
use Rattle.qil_semantics.specs.Targets.{after}
use Rattle.qil_semantics.specs.State.{State}

-- adds
abbrev pub adds : Program A0
adds = prog [] ((func (Some types.W) (codes "main") [] ((block (codes "start") [] ((inst (insts.Assign (w (codes "x")) (exprs.Binary binary.Add (n 2) (n 3)))) ∷ []) (jumps.Ret (Some (% (codes "x"))))) ∷ [])) ∷ [])

adds-0 : view adds (codes "main") [] 0 ((codes "x") ∷ []) (65535 ∷ 65536 ∷ 16777215 ∷ 16777216 ∷ []) ≡ Some ((((codes "main"), (codes "start"), 0, 16777216, None, (None ∷ [])) ∷ []), (None ∷ None ∷ None ∷ None ∷ []), 16777216, [], running)
unfolding runs
adds-0 = refl

adds-1 : view adds (codes "main") [] 1 ((codes "x") ∷ []) (65535 ∷ 65536 ∷ 16777215 ∷ 16777216 ∷ []) ≡ Some ((((codes "main"), (codes "start"), 1, 16777216, None, ((Some 5) ∷ [])) ∷ []), (None ∷ None ∷ None ∷ None ∷ []), 16777216, [], running)
unfolding runs
adds-1 = refl

adds-2 : view adds (codes "main") [] 2 ((codes "x") ∷ []) (65535 ∷ 65536 ∷ 16777215 ∷ 16777216 ∷ []) ≡ Some ([], (None ∷ None ∷ None ∷ None ∷ []), 16777216, [], (done (Some 5)))
unfolding runs
adds-2 = refl

-- overflows
abbrev pub overflows : Program A0
overflows = prog [] ((func (Some types.W) (codes "main") [] ((block (codes "start") [] ((inst (insts.Assign (w (codes "q")) (exprs.Binary binary.Div (n 18446744071562067968) (n 18446744073709551615)))) ∷ []) (jumps.Ret (Some (% (codes "q"))))) ∷ [])) ∷ [])

overflows-1 : view overflows (codes "main") [] 1 ((codes "q") ∷ []) (65535 ∷ 65536 ∷ 16777215 ∷ 16777216 ∷ []) ≡ Some ((((codes "main"), (codes "start"), 0, 16777216, None, (None ∷ [])) ∷ []), (None ∷ None ∷ None ∷ None ∷ []), 16777216, [], (faulted (division Overflow)))
unfolding runs
overflows-1 = refl

-- low_bits
abbrev pub low_bits : Program A0
low_bits = prog [] ((func None (codes "main") [] ((block (codes "start") [] ((inst (insts.Assign (w (codes "y")) (exprs.Binary binary.Shl (n 1) (n 33)))) ∷ (inst (insts.Assign (w (codes "z")) (exprs.Binary binary.Add (n 4294967295) (n 1)))) ∷ (inst (insts.Assign (l (codes "m")) (exprs.Binary binary.Shl (n 1) (n 33)))) ∷ (inst (insts.Assign (w (codes "r")) (exprs.Binary binary.Rem (n 18446744073709551609) (n 2)))) ∷ []) (jumps.Ret None)) ∷ [])) ∷ [])

low_bits-4 : view low_bits (codes "main") [] 4 ((codes "m") ∷ (codes "r") ∷ (codes "y") ∷ (codes "z") ∷ []) (65535 ∷ 65536 ∷ 16777215 ∷ 16777216 ∷ []) ≡ Some ((((codes "main"), (codes "start"), 4, 16777216, None, ((Some 8589934592) ∷ (Some 4294967295) ∷ (Some 2) ∷ (Some 0) ∷ [])) ∷ []), (None ∷ None ∷ None ∷ None ∷ []), 16777216, [], running)
unfolding runs
low_bits-4 = refl

low_bits-5 : view low_bits (codes "main") [] 5 ((codes "m") ∷ (codes "r") ∷ (codes "y") ∷ (codes "z") ∷ []) (65535 ∷ 65536 ∷ 16777215 ∷ 16777216 ∷ []) ≡ Some ([], (None ∷ None ∷ None ∷ None ∷ []), 16777216, [], (done None))
unfolding runs
low_bits-5 = refl

-- words_of_data
abbrev pub words_of_data : Program A0
words_of_data = prog ((data_ (codes "c") None ((fields.Values widths.L ((items.Number 18446744073709551615) ∷ [])) ∷ (fields.Values widths.L ((items.Address (codes "c") 0) ∷ [])) ∷ [])) ∷ []) ((func None (codes "main") [] ((block (codes "start") [] [] (jumps.Ret None)) ∷ [])) ∷ [])

words_of_data-0 : view words_of_data (codes "main") [] 0 [] (65535 ∷ 65536 ∷ 65537 ∷ 65538 ∷ 65539 ∷ 65540 ∷ 65541 ∷ 65542 ∷ 65543 ∷ 65544 ∷ 65545 ∷ 65546 ∷ 65547 ∷ 65548 ∷ 65549 ∷ 65550 ∷ 65551 ∷ 65552 ∷ []) ≡ Some ((((codes "main"), (codes "start"), 0, 16777216, None, []) ∷ []), (None ∷ (Some 255) ∷ (Some 255) ∷ (Some 255) ∷ (Some 255) ∷ (Some 255) ∷ (Some 255) ∷ (Some 255) ∷ (Some 255) ∷ (Some 0) ∷ (Some 0) ∷ (Some 1) ∷ (Some 0) ∷ (Some 0) ∷ (Some 0) ∷ (Some 0) ∷ (Some 0) ∷ None ∷ []), 16777216, [], running)
unfolding runs
words_of_data-0 = refl

-- swapping
abbrev pub swapping : Program A0
swapping = prog [] ((func (Some types.W) (codes "main") [] ((block (codes "start") [] [] (jumps.Jmp (codes "loop"))) ∷ (block (codes "loop") ((phi (w (codes "a")) (source (codes "start") (n 1) ∷ source (codes "loop") (% (codes "b")) ∷ [])) ∷ (phi (w (codes "b")) (source (codes "start") (n 2) ∷ source (codes "loop") (% (codes "a")) ∷ [])) ∷ []) [] (jumps.Jnz (n 1) (codes "loop") (codes "end"))) ∷ (block (codes "end") [] [] (jumps.Ret (Some (% (codes "a"))))) ∷ [])) ∷ [])

swapping-1 : view swapping (codes "main") [] 1 ((codes "a") ∷ (codes "b") ∷ []) (65535 ∷ 65536 ∷ 16777215 ∷ 16777216 ∷ []) ≡ Some ((((codes "main"), (codes "loop"), 0, 16777216, None, ((Some 1) ∷ (Some 2) ∷ [])) ∷ []), (None ∷ None ∷ None ∷ None ∷ []), 16777216, [], running)
unfolding runs
swapping-1 = refl

swapping-2 : view swapping (codes "main") [] 2 ((codes "a") ∷ (codes "b") ∷ []) (65535 ∷ 65536 ∷ 16777215 ∷ 16777216 ∷ []) ≡ Some ((((codes "main"), (codes "loop"), 0, 16777216, None, ((Some 2) ∷ (Some 1) ∷ [])) ∷ []), (None ∷ None ∷ None ∷ None ∷ []), 16777216, [], running)
unfolding runs
swapping-2 = refl

swapping-3 : view swapping (codes "main") [] 3 ((codes "a") ∷ (codes "b") ∷ []) (65535 ∷ 65536 ∷ 16777215 ∷ 16777216 ∷ []) ≡ Some ((((codes "main"), (codes "loop"), 0, 16777216, None, ((Some 1) ∷ (Some 2) ∷ [])) ∷ []), (None ∷ None ∷ None ∷ None ∷ []), 16777216, [], running)
unfolding runs
swapping-3 = refl

-- single_bytes
abbrev pub single_bytes : Program A0
single_bytes = prog ((data_ (codes "d") None ((fields.Values widths.L ((items.Number 0) ∷ [])) ∷ [])) ∷ []) ((func None (codes "main") [] ((block (codes "start") [] ((inst (insts.Store widths.B (n 511) ($ (codes "d")))) ∷ (inst (insts.Assign (l (codes "s")) (exprs.Load loads.Sb ($ (codes "d"))))) ∷ (inst (insts.Assign (l (codes "u")) (exprs.Load loads.Ub ($ (codes "d"))))) ∷ []) (jumps.Ret None)) ∷ [])) ∷ [])

single_bytes-1 : view single_bytes (codes "main") [] 1 ((codes "s") ∷ (codes "u") ∷ []) (65535 ∷ 65536 ∷ 65543 ∷ 65544 ∷ 16777215 ∷ 16777216 ∷ []) ≡ Some ((((codes "main"), (codes "start"), 1, 16777216, None, (None ∷ None ∷ [])) ∷ []), (None ∷ (Some 255) ∷ (Some 0) ∷ None ∷ None ∷ None ∷ []), 16777216, [], running)
unfolding runs
single_bytes-1 = refl

single_bytes-3 : view single_bytes (codes "main") [] 3 ((codes "s") ∷ (codes "u") ∷ []) (65535 ∷ 65536 ∷ 65543 ∷ 65544 ∷ 16777215 ∷ 16777216 ∷ []) ≡ Some ((((codes "main"), (codes "start"), 3, 16777216, None, ((Some 18446744073709551615) ∷ (Some 255) ∷ [])) ∷ []), (None ∷ (Some 255) ∷ (Some 0) ∷ None ∷ None ∷ None ∷ []), 16777216, [], running)
unfolding runs
single_bytes-3 = refl

single_bytes-4 : view single_bytes (codes "main") [] 4 ((codes "s") ∷ (codes "u") ∷ []) (65535 ∷ 65536 ∷ 65543 ∷ 65544 ∷ 16777215 ∷ 16777216 ∷ []) ≡ Some ([], (None ∷ (Some 255) ∷ (Some 0) ∷ None ∷ None ∷ None ∷ []), 16777216, [], (done None))
unfolding runs
single_bytes-4 = refl

-- overlaps
abbrev pub overlaps : Program A0
overlaps = prog ((data_ (codes "d") None ((fields.Values widths.L ((items.Number 1) ∷ [])) ∷ (fields.Values widths.L ((items.Number 2) ∷ [])) ∷ [])) ∷ []) ((func None (codes "main") [] ((block (codes "start") [] ((inst (insts.Assign (l (codes "p")) (exprs.Binary binary.Add ($ (codes "d")) (n 4)))) ∷ (inst (insts.Blit (n 0) (n 0) 0)) ∷ (inst (insts.Blit ($ (codes "d")) ($ (codes "d")) 8)) ∷ (inst (insts.Blit ($ (codes "d")) (% (codes "p")) 8)) ∷ []) (jumps.Ret None)) ∷ [])) ∷ [])

overlaps-3 : view overlaps (codes "main") [] 3 ((codes "p") ∷ []) (65535 ∷ 65536 ∷ 65551 ∷ 65552 ∷ 16777215 ∷ 16777216 ∷ []) ≡ Some ((((codes "main"), (codes "start"), 3, 16777216, None, ((Some 65540) ∷ [])) ∷ []), (None ∷ (Some 1) ∷ (Some 0) ∷ None ∷ None ∷ None ∷ []), 16777216, [], running)
unfolding runs
overlaps-3 = refl

overlaps-4 : view overlaps (codes "main") [] 4 ((codes "p") ∷ []) (65535 ∷ 65536 ∷ 65551 ∷ 65552 ∷ 16777215 ∷ 16777216 ∷ []) ≡ Some ((((codes "main"), (codes "start"), 3, 16777216, None, ((Some 65540) ∷ [])) ∷ []), (None ∷ (Some 1) ∷ (Some 0) ∷ None ∷ None ∷ None ∷ []), 16777216, [], (faulted overlapping_blit))
unfolding runs
overlaps-4 = refl

-- reused_stack
abbrev pub reused_stack : Program A0
reused_stack = prog [] ((func None (codes "f") [] ((block (codes "s") [] ((inst (insts.Alloc (l (codes "p")) allocs.Eight (n 8))) ∷ (inst (insts.Store widths.L (n 7) (% (codes "p")))) ∷ []) (jumps.Ret None)) ∷ [])) ∷ (func None (codes "g") [] ((block (codes "s") [] ((inst (insts.Alloc (l (codes "p")) allocs.Eight (n 8))) ∷ []) (jumps.Ret None)) ∷ [])) ∷ (func None (codes "main") [] ((block (codes "start") [] ((call None ($ (codes "f")) []) ∷ (call None ($ (codes "g")) []) ∷ []) (jumps.Ret None)) ∷ [])) ∷ [])

reused_stack-0 : view reused_stack (codes "main") [] 0 ((codes "p") ∷ []) (16777215 ∷ 16777216 ∷ 16777217 ∷ 16777218 ∷ 16777219 ∷ 16777220 ∷ 16777221 ∷ 16777222 ∷ 16777223 ∷ 16777224 ∷ []) ≡ Some ((((codes "main"), (codes "start"), 0, 16777216, None, (None ∷ [])) ∷ []), (None ∷ None ∷ None ∷ None ∷ None ∷ None ∷ None ∷ None ∷ None ∷ None ∷ []), 16777216, [], running)
unfolding runs
reused_stack-0 = refl

reused_stack-1 : view reused_stack (codes "main") [] 1 ((codes "p") ∷ []) (16777215 ∷ 16777216 ∷ 16777217 ∷ 16777218 ∷ 16777219 ∷ 16777220 ∷ 16777221 ∷ 16777222 ∷ 16777223 ∷ 16777224 ∷ []) ≡ Some ((((codes "f"), (codes "s"), 0, 16777216, None, (None ∷ [])) ∷ ((codes "main"), (codes "start"), 1, 16777216, None, (None ∷ [])) ∷ []), (None ∷ None ∷ None ∷ None ∷ None ∷ None ∷ None ∷ None ∷ None ∷ None ∷ []), 16777216, [], running)
unfolding runs
reused_stack-1 = refl

reused_stack-2 : view reused_stack (codes "main") [] 2 ((codes "p") ∷ []) (16777215 ∷ 16777216 ∷ 16777217 ∷ 16777218 ∷ 16777219 ∷ 16777220 ∷ 16777221 ∷ 16777222 ∷ 16777223 ∷ 16777224 ∷ []) ≡ Some ((((codes "f"), (codes "s"), 1, 16777216, None, ((Some 16777216) ∷ [])) ∷ ((codes "main"), (codes "start"), 1, 16777216, None, (None ∷ [])) ∷ []), (None ∷ (Some 0) ∷ (Some 0) ∷ (Some 0) ∷ (Some 0) ∷ (Some 0) ∷ (Some 0) ∷ (Some 0) ∷ (Some 0) ∷ None ∷ []), 16777224, [], running)
unfolding runs
reused_stack-2 = refl

reused_stack-3 : view reused_stack (codes "main") [] 3 ((codes "p") ∷ []) (16777215 ∷ 16777216 ∷ 16777217 ∷ 16777218 ∷ 16777219 ∷ 16777220 ∷ 16777221 ∷ 16777222 ∷ 16777223 ∷ 16777224 ∷ []) ≡ Some ((((codes "f"), (codes "s"), 2, 16777216, None, ((Some 16777216) ∷ [])) ∷ ((codes "main"), (codes "start"), 1, 16777216, None, (None ∷ [])) ∷ []), (None ∷ (Some 7) ∷ (Some 0) ∷ (Some 0) ∷ (Some 0) ∷ (Some 0) ∷ (Some 0) ∷ (Some 0) ∷ (Some 0) ∷ None ∷ []), 16777224, [], running)
unfolding runs
reused_stack-3 = refl

reused_stack-4 : view reused_stack (codes "main") [] 4 ((codes "p") ∷ []) (16777215 ∷ 16777216 ∷ 16777217 ∷ 16777218 ∷ 16777219 ∷ 16777220 ∷ 16777221 ∷ 16777222 ∷ 16777223 ∷ 16777224 ∷ []) ≡ Some ((((codes "main"), (codes "start"), 1, 16777216, None, (None ∷ [])) ∷ []), (None ∷ None ∷ None ∷ None ∷ None ∷ None ∷ None ∷ None ∷ None ∷ None ∷ []), 16777216, [], running)
unfolding runs
reused_stack-4 = refl

reused_stack-5 : view reused_stack (codes "main") [] 5 ((codes "p") ∷ []) (16777215 ∷ 16777216 ∷ 16777217 ∷ 16777218 ∷ 16777219 ∷ 16777220 ∷ 16777221 ∷ 16777222 ∷ 16777223 ∷ 16777224 ∷ []) ≡ Some ((((codes "g"), (codes "s"), 0, 16777216, None, (None ∷ [])) ∷ ((codes "main"), (codes "start"), 2, 16777216, None, (None ∷ [])) ∷ []), (None ∷ None ∷ None ∷ None ∷ None ∷ None ∷ None ∷ None ∷ None ∷ None ∷ []), 16777216, [], running)
unfolding runs
reused_stack-5 = refl

reused_stack-6 : view reused_stack (codes "main") [] 6 ((codes "p") ∷ []) (16777215 ∷ 16777216 ∷ 16777217 ∷ 16777218 ∷ 16777219 ∷ 16777220 ∷ 16777221 ∷ 16777222 ∷ 16777223 ∷ 16777224 ∷ []) ≡ Some ((((codes "g"), (codes "s"), 1, 16777216, None, ((Some 16777216) ∷ [])) ∷ ((codes "main"), (codes "start"), 2, 16777216, None, (None ∷ [])) ∷ []), (None ∷ (Some 0) ∷ (Some 0) ∷ (Some 0) ∷ (Some 0) ∷ (Some 0) ∷ (Some 0) ∷ (Some 0) ∷ (Some 0) ∷ None ∷ []), 16777224, [], running)
unfolding runs
reused_stack-6 = refl

reused_stack-7 : view reused_stack (codes "main") [] 7 ((codes "p") ∷ []) (16777215 ∷ 16777216 ∷ 16777217 ∷ 16777218 ∷ 16777219 ∷ 16777220 ∷ 16777221 ∷ 16777222 ∷ 16777223 ∷ 16777224 ∷ []) ≡ Some ((((codes "main"), (codes "start"), 2, 16777216, None, (None ∷ [])) ∷ []), (None ∷ None ∷ None ∷ None ∷ None ∷ None ∷ None ∷ None ∷ None ∷ None ∷ []), 16777216, [], running)
unfolding runs
reused_stack-7 = refl

reused_stack-8 : view reused_stack (codes "main") [] 8 ((codes "p") ∷ []) (16777215 ∷ 16777216 ∷ 16777217 ∷ 16777218 ∷ 16777219 ∷ 16777220 ∷ 16777221 ∷ 16777222 ∷ 16777223 ∷ 16777224 ∷ []) ≡ Some ([], (None ∷ None ∷ None ∷ None ∷ None ∷ None ∷ None ∷ None ∷ None ∷ None ∷ []), 16777216, [], (done None))
unfolding runs
reused_stack-8 = refl

-- bare_return
abbrev pub bare_return : Program A0
bare_return = prog [] ((func (Some types.W) (codes "f") [] ((block (codes "s") [] [] (jumps.Ret None)) ∷ [])) ∷ (func (Some types.W) (codes "main") [] ((block (codes "start") [] ((inst (insts.Assign (w (codes "x")) (exprs.Unary unary.Copy (n 3)))) ∷ (call (result (codes "x") types.W) ($ (codes "f")) []) ∷ (inst (insts.Assign (w (codes "y")) (exprs.Binary binary.Add (% (codes "x")) (n 1)))) ∷ []) (jumps.Ret (Some (% (codes "y"))))) ∷ [])) ∷ [])

bare_return-1 : view bare_return (codes "main") [] 1 ((codes "x") ∷ (codes "y") ∷ []) (65535 ∷ 65536 ∷ 16777215 ∷ 16777216 ∷ []) ≡ Some ((((codes "main"), (codes "start"), 1, 16777216, None, ((Some 3) ∷ None ∷ [])) ∷ []), (None ∷ None ∷ None ∷ None ∷ []), 16777216, [], running)
unfolding runs
bare_return-1 = refl

bare_return-2 : view bare_return (codes "main") [] 2 ((codes "x") ∷ (codes "y") ∷ []) (65535 ∷ 65536 ∷ 16777215 ∷ 16777216 ∷ []) ≡ Some ((((codes "f"), (codes "s"), 0, 16777216, (result (codes "x") types.W), (None ∷ None ∷ [])) ∷ ((codes "main"), (codes "start"), 2, 16777216, None, ((Some 3) ∷ None ∷ [])) ∷ []), (None ∷ None ∷ None ∷ None ∷ []), 16777216, [], running)
unfolding runs
bare_return-2 = refl

bare_return-3 : view bare_return (codes "main") [] 3 ((codes "x") ∷ (codes "y") ∷ []) (65535 ∷ 65536 ∷ 16777215 ∷ 16777216 ∷ []) ≡ Some ((((codes "main"), (codes "start"), 2, 16777216, None, (None ∷ None ∷ [])) ∷ []), (None ∷ None ∷ None ∷ None ∷ []), 16777216, [], running)
unfolding runs
bare_return-3 = refl

bare_return-4 : view bare_return (codes "main") [] 4 ((codes "x") ∷ (codes "y") ∷ []) (65535 ∷ 65536 ∷ 16777215 ∷ 16777216 ∷ []) ≡ Some ((((codes "main"), (codes "start"), 2, 16777216, None, (None ∷ None ∷ [])) ∷ []), (None ∷ None ∷ None ∷ None ∷ []), 16777216, [], (faulted (unset_temporary (codes "x"))))
unfolding runs
bare_return-4 = refl

-- called_number
abbrev pub called_number : Program A0
called_number = prog [] ((func None (codes "main") [] ((block (codes "start") [] ((inst (insts.Assign (l (codes "a")) (exprs.Unary unary.Copy (n 65536)))) ∷ (call None (% (codes "a")) []) ∷ []) (jumps.Ret None)) ∷ [])) ∷ [])

called_number-2 : view called_number (codes "main") [] 2 ((codes "a") ∷ []) (65535 ∷ 65536 ∷ 16777215 ∷ 16777216 ∷ []) ≡ Some ((((codes "main"), (codes "start"), 1, 16777216, None, ((Some 65536) ∷ [])) ∷ []), (None ∷ None ∷ None ∷ None ∷ []), 16777216, [], (faulted (no_function 65536)))
unfolding runs
called_number-2 = refl

-- argument_too_many
abbrev pub argument_too_many : Program A0
argument_too_many = prog [] ((func None (codes "main") [] ((block (codes "start") [] ((call None ($ (codes "f")) (arg types.W (n 1) ∷ [])) ∷ []) (jumps.Ret None)) ∷ [])) ∷ (func None (codes "f") [] ((block (codes "s") [] [] (jumps.Ret None)) ∷ [])) ∷ [])

argument_too_many-1 : view argument_too_many (codes "main") [] 1 [] (65535 ∷ 65536 ∷ 16777215 ∷ 16777216 ∷ []) ≡ Some ((((codes "main"), (codes "start"), 0, 16777216, None, []) ∷ []), (None ∷ None ∷ None ∷ None ∷ []), 16777216, [], (faulted call_shape))
unfolding runs
argument_too_many-1 = refl

-- endless_text
abbrev pub endless_text : Program A0
endless_text = prog ((data_ (codes "s") (Some 1) ((fields.Values widths.B ((items.Text (104 ∷ 105 ∷ [])) ∷ [])) ∷ [])) ∷ []) ((func None (codes "main") [] ((block (codes "start") [] ((call (result (codes "a") types.W) ($ (codes "putchar")) (arg types.W (n 65) ∷ [])) ∷ (call (result (codes "b") types.W) ($ (codes "puts")) (arg types.L ($ (codes "s")) ∷ [])) ∷ []) (jumps.Ret None)) ∷ [])) ∷ [])

endless_text-1 : view endless_text (codes "main") [] 1 ((codes "a") ∷ (codes "b") ∷ []) (65535 ∷ 65536 ∷ 65537 ∷ 65538 ∷ 16777215 ∷ 16777216 ∷ []) ≡ Some ((((codes "main"), (codes "start"), 1, 16777216, None, ((Some 65) ∷ None ∷ [])) ∷ []), (None ∷ (Some 104) ∷ (Some 105) ∷ None ∷ None ∷ None ∷ []), 16777216, (65 ∷ []), running)
unfolding runs
endless_text-1 = refl

endless_text-2 : view endless_text (codes "main") [] 2 ((codes "a") ∷ (codes "b") ∷ []) (65535 ∷ 65536 ∷ 65537 ∷ 65538 ∷ 16777215 ∷ 16777216 ∷ []) ≡ Some ((((codes "main"), (codes "start"), 1, 16777216, None, ((Some 65) ∷ None ∷ [])) ∷ []), (None ∷ (Some 104) ∷ (Some 105) ∷ None ∷ None ∷ None ∷ []), 16777216, (65 ∷ []), (faulted (dead_address 65538)))
unfolding runs
endless_text-2 = refl

-- hello
abbrev pub hello : Program A0
hello = prog ((data_ (codes "str") None ((fields.Values widths.B ((items.Text (104 ∷ 101 ∷ 108 ∷ 108 ∷ 111 ∷ 32 ∷ 119 ∷ 111 ∷ 114 ∷ 108 ∷ 100 ∷ [])) ∷ [])) ∷ (fields.Values widths.B ((items.Number 0) ∷ [])) ∷ [])) ∷ []) ((func (Some types.W) (codes "main") [] ((block (codes "start") [] ((call (result (codes "r") types.W) ($ (codes "puts")) (arg types.L ($ (codes "str")) ∷ [])) ∷ (call None ($ (codes "exit")) (arg types.W (n 7) ∷ [])) ∷ []) (jumps.Ret (Some (n 0)))) ∷ [])) ∷ [])

hello-1 : view hello (codes "main") [] 1 ((codes "r") ∷ []) (65535 ∷ 65536 ∷ 65547 ∷ 65548 ∷ 16777215 ∷ 16777216 ∷ []) ≡ Some ((((codes "main"), (codes "start"), 1, 16777216, None, ((Some 0) ∷ [])) ∷ []), (None ∷ (Some 104) ∷ (Some 0) ∷ None ∷ None ∷ None ∷ []), 16777216, (104 ∷ 101 ∷ 108 ∷ 108 ∷ 111 ∷ 32 ∷ 119 ∷ 111 ∷ 114 ∷ 108 ∷ 100 ∷ 10 ∷ []), running)
unfolding runs
hello-1 = refl

hello-2 : view hello (codes "main") [] 2 ((codes "r") ∷ []) (65535 ∷ 65536 ∷ 65547 ∷ 65548 ∷ 16777215 ∷ 16777216 ∷ []) ≡ Some ((((codes "main"), (codes "start"), 1, 16777216, None, ((Some 0) ∷ [])) ∷ []), (None ∷ (Some 104) ∷ (Some 0) ∷ None ∷ None ∷ None ∷ []), 16777216, (104 ∷ 101 ∷ 108 ∷ 108 ∷ 111 ∷ 32 ∷ 119 ∷ 111 ∷ 114 ∷ 108 ∷ 100 ∷ 10 ∷ []), (exited 7))
unfolding runs
hello-2 = refl

-- full_stack
abbrev pub full_stack : Program A0
full_stack = prog [] ((func None (codes "main") [] ((block (codes "start") [] ((inst (insts.Alloc (l (codes "a")) allocs.Four (n 1))) ∷ (inst (insts.Alloc (l (codes "p")) allocs.Sixteen (n 1048560))) ∷ (inst (insts.Alloc (l (codes "q")) allocs.Four (n 0))) ∷ (inst (insts.Alloc (l (codes "r")) allocs.Four (n 1))) ∷ []) (jumps.Ret None)) ∷ [])) ∷ [])

full_stack-1 : view full_stack (codes "main") [] 1 ((codes "a") ∷ (codes "p") ∷ (codes "q") ∷ (codes "r") ∷ []) (65535 ∷ 16777215 ∷ []) ≡ Some ((((codes "main"), (codes "start"), 1, 16777216, None, ((Some 16777216) ∷ None ∷ None ∷ None ∷ [])) ∷ []), (None ∷ None ∷ []), 16777217, [], running)
unfolding runs
full_stack-1 = refl

full_stack-3 : view full_stack (codes "main") [] 3 ((codes "a") ∷ (codes "p") ∷ (codes "q") ∷ (codes "r") ∷ []) (65535 ∷ 16777215 ∷ []) ≡ Some ((((codes "main"), (codes "start"), 3, 16777216, None, ((Some 16777216) ∷ (Some 16777232) ∷ (Some 17825792) ∷ None ∷ [])) ∷ []), (None ∷ None ∷ []), 17825792, [], running)
unfolding runs
full_stack-3 = refl

full_stack-4 : view full_stack (codes "main") [] 4 ((codes "a") ∷ (codes "p") ∷ (codes "q") ∷ (codes "r") ∷ []) (65535 ∷ 16777215 ∷ []) ≡ Some ((((codes "main"), (codes "start"), 3, 16777216, None, ((Some 16777216) ∷ (Some 16777232) ∷ (Some 17825792) ∷ None ∷ [])) ∷ []), (None ∷ None ∷ []), 17825792, [], (faulted stack_full))
unfolding runs
full_stack-4 = refl

-- padded
abbrev pub padded : Program A0
padded = prog ((data_ (codes "a") (Some 1) ((fields.Values widths.B ((items.Number 1) ∷ [])) ∷ [])) ∷ (data_ (codes "b") None ((fields.Values widths.W ((items.Number 2) ∷ [])) ∷ [])) ∷ []) ((func None (codes "main") [] ((block (codes "start") [] [] (jumps.Ret None)) ∷ [])) ∷ [])

padded-1 : view padded (codes "main") [] 1 [] (65535 ∷ 65536 ∷ 65537 ∷ 65538 ∷ 65539 ∷ 65540 ∷ 65541 ∷ 65542 ∷ 65543 ∷ 65544 ∷ 65545 ∷ 65546 ∷ 65547 ∷ 65548 ∷ 65549 ∷ 65550 ∷ 65551 ∷ 65552 ∷ 65553 ∷ 65554 ∷ 65555 ∷ 65556 ∷ []) ≡ Some ([], (None ∷ (Some 1) ∷ (Some 0) ∷ (Some 0) ∷ (Some 0) ∷ (Some 0) ∷ (Some 0) ∷ (Some 0) ∷ (Some 0) ∷ (Some 0) ∷ (Some 0) ∷ (Some 0) ∷ (Some 0) ∷ (Some 0) ∷ (Some 0) ∷ (Some 0) ∷ (Some 0) ∷ (Some 2) ∷ (Some 0) ∷ (Some 0) ∷ (Some 0) ∷ None ∷ []), 16777216, [], (done None))
unfolding runs
padded-1 = refl

-- entry_argument
abbrev pub entry_argument : Program A0
entry_argument = prog [] ((func (Some types.W) (codes "inc") (param types.W (codes "a") ∷ []) ((block (codes "s") [] ((inst (insts.Assign (w (codes "b")) (exprs.Binary binary.Add (% (codes "a")) (n 1)))) ∷ []) (jumps.Ret (Some (% (codes "b"))))) ∷ [])) ∷ [])

entry_argument-0 : view entry_argument (codes "inc") (4294967296 ∷ []) 0 ((codes "a") ∷ (codes "b") ∷ []) (65535 ∷ 65536 ∷ 16777215 ∷ 16777216 ∷ []) ≡ Some ((((codes "inc"), (codes "s"), 0, 16777216, None, ((Some 0) ∷ None ∷ [])) ∷ []), (None ∷ None ∷ None ∷ None ∷ []), 16777216, [], running)
unfolding runs
entry_argument-0 = refl

entry_argument-1 : view entry_argument (codes "inc") (4294967296 ∷ []) 1 ((codes "a") ∷ (codes "b") ∷ []) (65535 ∷ 65536 ∷ 16777215 ∷ 16777216 ∷ []) ≡ Some ((((codes "inc"), (codes "s"), 1, 16777216, None, ((Some 0) ∷ (Some 1) ∷ [])) ∷ []), (None ∷ None ∷ None ∷ None ∷ []), 16777216, [], running)
unfolding runs
entry_argument-1 = refl

entry_argument-2 : view entry_argument (codes "inc") (4294967296 ∷ []) 2 ((codes "a") ∷ (codes "b") ∷ []) (65535 ∷ 65536 ∷ 16777215 ∷ 16777216 ∷ []) ≡ Some ([], (None ∷ None ∷ None ∷ None ∷ []), 16777216, [], (done (Some 1)))
unfolding runs
entry_argument-2 = refl

-- bytes_and_halves
abbrev pub bytes_and_halves : Program A0
bytes_and_halves = prog [] ((func (Some types.Sb) (codes "f") (param types.Ub (codes "a") ∷ []) ((block (codes "s") [] [] (jumps.Ret (Some (% (codes "a"))))) ∷ [])) ∷ (func (Some types.W) (codes "main") [] ((block (codes "start") [] ((call (result (codes "x") types.Sb) ($ (codes "f")) (arg types.Ub (n 511) ∷ [])) ∷ (call (result (codes "y") types.Uh) ($ (codes "f")) (arg types.Sb (n 18446744073709551615) ∷ [])) ∷ []) (jumps.Ret (Some (% (codes "x"))))) ∷ [])) ∷ [])

bytes_and_halves-1 : view bytes_and_halves (codes "main") [] 1 ((codes "a") ∷ (codes "x") ∷ (codes "y") ∷ []) (65535 ∷ 65536 ∷ 16777215 ∷ 16777216 ∷ []) ≡ Some ((((codes "f"), (codes "s"), 0, 16777216, (result (codes "x") types.Sb), ((Some 255) ∷ None ∷ None ∷ [])) ∷ ((codes "main"), (codes "start"), 1, 16777216, None, (None ∷ None ∷ None ∷ [])) ∷ []), (None ∷ None ∷ None ∷ None ∷ []), 16777216, [], running)
unfolding runs
bytes_and_halves-1 = refl

bytes_and_halves-2 : view bytes_and_halves (codes "main") [] 2 ((codes "a") ∷ (codes "x") ∷ (codes "y") ∷ []) (65535 ∷ 65536 ∷ 16777215 ∷ 16777216 ∷ []) ≡ Some ((((codes "main"), (codes "start"), 1, 16777216, None, (None ∷ (Some 4294967295) ∷ None ∷ [])) ∷ []), (None ∷ None ∷ None ∷ None ∷ []), 16777216, [], running)
unfolding runs
bytes_and_halves-2 = refl

bytes_and_halves-3 : view bytes_and_halves (codes "main") [] 3 ((codes "a") ∷ (codes "x") ∷ (codes "y") ∷ []) (65535 ∷ 65536 ∷ 16777215 ∷ 16777216 ∷ []) ≡ Some ((((codes "f"), (codes "s"), 0, 16777216, (result (codes "y") types.Uh), ((Some 255) ∷ None ∷ None ∷ [])) ∷ ((codes "main"), (codes "start"), 2, 16777216, None, (None ∷ (Some 4294967295) ∷ None ∷ [])) ∷ []), (None ∷ None ∷ None ∷ None ∷ []), 16777216, [], running)
unfolding runs
bytes_and_halves-3 = refl

bytes_and_halves-4 : view bytes_and_halves (codes "main") [] 4 ((codes "a") ∷ (codes "x") ∷ (codes "y") ∷ []) (65535 ∷ 65536 ∷ 16777215 ∷ 16777216 ∷ []) ≡ Some ((((codes "main"), (codes "start"), 2, 16777216, None, (None ∷ (Some 4294967295) ∷ (Some 65535) ∷ [])) ∷ []), (None ∷ None ∷ None ∷ None ∷ []), 16777216, [], running)
unfolding runs
bytes_and_halves-4 = refl

bytes_and_halves-5 : view bytes_and_halves (codes "main") [] 5 ((codes "a") ∷ (codes "x") ∷ (codes "y") ∷ []) (65535 ∷ 65536 ∷ 16777215 ∷ 16777216 ∷ []) ≡ Some ([], (None ∷ None ∷ None ∷ None ∷ []), 16777216, [], (done (Some 4294967295)))
unfolding runs
bytes_and_halves-5 = refl

-- half_argument
abbrev pub half_argument : Program A0
half_argument = prog [] ((func (Some types.Uh) (codes "g") (param types.Sh (codes "a") ∷ []) ((block (codes "s") [] [] (jumps.Ret (Some (% (codes "a"))))) ∷ [])) ∷ [])

half_argument-0 : view half_argument (codes "g") (65535 ∷ []) 0 ((codes "a") ∷ []) (65535 ∷ 65536 ∷ 16777215 ∷ 16777216 ∷ []) ≡ Some ((((codes "g"), (codes "s"), 0, 16777216, None, ((Some 4294967295) ∷ [])) ∷ []), (None ∷ None ∷ None ∷ None ∷ []), 16777216, [], running)
unfolding runs
half_argument-0 = refl

half_argument-1 : view half_argument (codes "g") (65535 ∷ []) 1 ((codes "a") ∷ []) (65535 ∷ 65536 ∷ 16777215 ∷ 16777216 ∷ []) ≡ Some ([], (None ∷ None ∷ None ∷ None ∷ []), 16777216, [], (done (Some 65535)))
unfolding runs
half_argument-1 = refl

-- byte_to_putchar
abbrev pub byte_to_putchar : Program A0
byte_to_putchar = prog [] ((func None (codes "main") [] ((block (codes "start") [] ((call None ($ (codes "putchar")) (arg types.Ub (n 321) ∷ [])) ∷ []) (jumps.Ret None)) ∷ [])) ∷ [])

byte_to_putchar-1 : view byte_to_putchar (codes "main") [] 1 [] (65535 ∷ 65536 ∷ 16777215 ∷ 16777216 ∷ []) ≡ Some ((((codes "main"), (codes "start"), 1, 16777216, None, []) ∷ []), (None ∷ None ∷ None ∷ None ∷ []), 16777216, (65 ∷ []), running)
unfolding runs
byte_to_putchar-1 = refl

-- long_for_byte
abbrev pub long_for_byte : Program A0
long_for_byte = prog [] ((func (Some types.Sb) (codes "f") (param types.Ub (codes "a") ∷ []) ((block (codes "s") [] [] (jumps.Ret (Some (% (codes "a"))))) ∷ [])) ∷ (func None (codes "main") [] ((block (codes "start") [] ((call (result (codes "x") types.Sb) ($ (codes "f")) (arg types.L (n 1) ∷ [])) ∷ []) (jumps.Ret None)) ∷ [])) ∷ [])

long_for_byte-1 : view long_for_byte (codes "main") [] 1 ((codes "a") ∷ (codes "x") ∷ []) (65535 ∷ 65536 ∷ 16777215 ∷ 16777216 ∷ []) ≡ Some ((((codes "main"), (codes "start"), 0, 16777216, None, (None ∷ None ∷ [])) ∷ []), (None ∷ None ∷ None ∷ None ∷ []), 16777216, [], (faulted call_shape))
unfolding runs
long_for_byte-1 = refl

-- hlt
abbrev pub hlt : Program A0
hlt = prog [] ((func None (codes "main") [] ((block (codes "start") [] [] jumps.Hlt) ∷ [])) ∷ [])

hlt-1 : view hlt (codes "main") [] 1 [] (65535 ∷ 65536 ∷ 16777215 ∷ 16777216 ∷ []) ≡ Some ((((codes "main"), (codes "start"), 0, 16777216, None, []) ∷ []), (None ∷ None ∷ None ∷ None ∷ []), 16777216, [], (faulted halted))
unfolding runs
hlt-1 = refl

-- exit_named
abbrev pub exit_named : Program A0
exit_named = prog [] ((func None (codes "main") [] ((block (codes "start") [] ((call (result (codes "r") types.W) ($ (codes "exit")) (arg types.W (n 1) ∷ [])) ∷ []) (jumps.Ret None)) ∷ [])) ∷ [])

exit_named-1 : view exit_named (codes "main") [] 1 ((codes "r") ∷ []) (65535 ∷ 65536 ∷ 16777215 ∷ 16777216 ∷ []) ≡ Some ((((codes "main"), (codes "start"), 0, 16777216, None, (None ∷ [])) ∷ []), (None ∷ None ∷ None ∷ None ∷ []), 16777216, [], (faulted call_shape))
unfolding runs
exit_named-1 = refl

-- by_address
abbrev pub by_address : Program A0
by_address = prog [] ((func None (codes "main") [] ((block (codes "start") [] ((call None (n 1024) (arg types.W (n 65) ∷ [])) ∷ []) (jumps.Ret None)) ∷ [])) ∷ [])

by_address-1 : view by_address (codes "main") [] 1 [] (65535 ∷ 65536 ∷ 16777215 ∷ 16777216 ∷ []) ≡ Some ((((codes "main"), (codes "start"), 1, 16777216, None, []) ∷ []), (None ∷ None ∷ None ∷ None ∷ []), 16777216, (65 ∷ []), running)
unfolding runs
by_address-1 = refl

by_address-2 : view by_address (codes "main") [] 2 [] (65535 ∷ 65536 ∷ 16777215 ∷ 16777216 ∷ []) ≡ Some ([], (None ∷ None ∷ None ∷ None ∷ []), 16777216, (65 ∷ []), (done None))
unfolding runs
by_address-2 = refl

-- byte_of_putchar
abbrev pub byte_of_putchar : Program A0
byte_of_putchar = prog [] ((func None (codes "main") [] ((block (codes "start") [] ((call (result (codes "x") types.Sb) ($ (codes "putchar")) (arg types.W (n 200) ∷ [])) ∷ []) (jumps.Ret None)) ∷ [])) ∷ [])

byte_of_putchar-1 : view byte_of_putchar (codes "main") [] 1 ((codes "x") ∷ []) (65535 ∷ 65536 ∷ 16777215 ∷ 16777216 ∷ []) ≡ Some ((((codes "main"), (codes "start"), 1, 16777216, None, ((Some 4294967240) ∷ [])) ∷ []), (None ∷ None ∷ None ∷ None ∷ []), 16777216, (200 ∷ []), running)
unfolding runs
byte_of_putchar-1 = refl

-- unset_phi
abbrev pub unset_phi : Program A0
unset_phi = prog [] ((func (Some types.W) (codes "main") [] ((block (codes "start") [] [] (jumps.Jmp (codes "loop"))) ∷ (block (codes "loop") ((phi (w (codes "a")) (source (codes "start") (% (codes "b")) ∷ source (codes "loop") (n 3) ∷ [])) ∷ (phi (w (codes "b")) (source (codes "start") (% (codes "c")) ∷ source (codes "loop") (% (codes "a")) ∷ [])) ∷ []) ((inst (insts.Assign (w (codes "c")) (exprs.Unary unary.Copy (n 1)))) ∷ []) (jumps.Jnz (n 1) (codes "loop") (codes "end"))) ∷ (block (codes "end") [] [] (jumps.Ret (Some (% (codes "a"))))) ∷ [])) ∷ [])

unset_phi-1 : view unset_phi (codes "main") [] 1 ((codes "a") ∷ (codes "b") ∷ (codes "c") ∷ []) (65535 ∷ 65536 ∷ 16777215 ∷ 16777216 ∷ []) ≡ Some ((((codes "main"), (codes "start"), 0, 16777216, None, (None ∷ None ∷ None ∷ [])) ∷ []), (None ∷ None ∷ None ∷ None ∷ []), 16777216, [], (faulted (unset_temporary (codes "b"))))
unfolding runs
unset_phi-1 = refl

-- late_phi
abbrev pub late_phi : Program A0
late_phi = prog [] ((func (Some types.W) (codes "main") [] ((block (codes "start") [] [] (jumps.Jmp (codes "loop"))) ∷ (block (codes "loop") ((phi (w (codes "a")) (source (codes "start") (n 1) ∷ [])) ∷ (phi (w (codes "a")) (source (codes "start") (n 2) ∷ [])) ∷ []) [] (jumps.Ret (Some (% (codes "a"))))) ∷ [])) ∷ [])

late_phi-1 : view late_phi (codes "main") [] 1 ((codes "a") ∷ []) (65535 ∷ 65536 ∷ 16777215 ∷ 16777216 ∷ []) ≡ Some ((((codes "main"), (codes "loop"), 0, 16777216, None, ((Some 2) ∷ [])) ∷ []), (None ∷ None ∷ None ∷ None ∷ []), 16777216, [], running)
unfolding runs
late_phi-1 = refl

late_phi-2 : view late_phi (codes "main") [] 2 ((codes "a") ∷ []) (65535 ∷ 65536 ∷ 16777215 ∷ 16777216 ∷ []) ≡ Some ([], (None ∷ None ∷ None ∷ None ∷ []), 16777216, [], (done (Some 2)))
unfolding runs
late_phi-2 = refl

-- loading
abbrev pub loading : Program A0
loading = prog ((data_ (codes "d") None ((fields.Values widths.L ((items.Number 18446744073709551614) ∷ [])) ∷ (fields.Values widths.W ((items.Number 5) ∷ [])) ∷ [])) ∷ []) ((func None (codes "main") [] ((block (codes "start") [] ((inst (insts.Assign (w (codes "a")) (exprs.Load loads.Sw (n 65541)))) ∷ (inst (insts.Assign (l (codes "b")) (exprs.Load loads.Sw ($ (codes "d"))))) ∷ (inst (insts.Assign (l (codes "c")) (exprs.Load loads.Uw ($ (codes "d"))))) ∷ (inst (insts.Assign (l (codes "d")) (exprs.Load loads.Sh ($ (codes "d"))))) ∷ (inst (insts.Assign (w (codes "e")) (exprs.Load loads.Uh ($ (codes "d"))))) ∷ (inst (insts.Assign (l (codes "f")) (exprs.Load loads.L ($ (codes "d"))))) ∷ (inst (insts.Assign (w (codes "g")) (exprs.Load loads.Ub (n 65548)))) ∷ []) (jumps.Ret None)) ∷ [])) ∷ [])

loading-1 : view loading (codes "main") [] 1 ((codes "a") ∷ (codes "b") ∷ (codes "c") ∷ (codes "d") ∷ (codes "e") ∷ (codes "f") ∷ (codes "g") ∷ []) (65535 ∷ 65536 ∷ 65547 ∷ 65548 ∷ 16777215 ∷ 16777216 ∷ []) ≡ Some ((((codes "main"), (codes "start"), 1, 16777216, None, ((Some 100663295) ∷ None ∷ None ∷ None ∷ None ∷ None ∷ None ∷ [])) ∷ []), (None ∷ (Some 254) ∷ (Some 0) ∷ None ∷ None ∷ None ∷ []), 16777216, [], running)
unfolding runs
loading-1 = refl

loading-2 : view loading (codes "main") [] 2 ((codes "a") ∷ (codes "b") ∷ (codes "c") ∷ (codes "d") ∷ (codes "e") ∷ (codes "f") ∷ (codes "g") ∷ []) (65535 ∷ 65536 ∷ 65547 ∷ 65548 ∷ 16777215 ∷ 16777216 ∷ []) ≡ Some ((((codes "main"), (codes "start"), 2, 16777216, None, ((Some 100663295) ∷ (Some 18446744073709551614) ∷ None ∷ None ∷ None ∷ None ∷ None ∷ [])) ∷ []), (None ∷ (Some 254) ∷ (Some 0) ∷ None ∷ None ∷ None ∷ []), 16777216, [], running)
unfolding runs
loading-2 = refl

loading-3 : view loading (codes "main") [] 3 ((codes "a") ∷ (codes "b") ∷ (codes "c") ∷ (codes "d") ∷ (codes "e") ∷ (codes "f") ∷ (codes "g") ∷ []) (65535 ∷ 65536 ∷ 65547 ∷ 65548 ∷ 16777215 ∷ 16777216 ∷ []) ≡ Some ((((codes "main"), (codes "start"), 3, 16777216, None, ((Some 100663295) ∷ (Some 18446744073709551614) ∷ (Some 4294967294) ∷ None ∷ None ∷ None ∷ None ∷ [])) ∷ []), (None ∷ (Some 254) ∷ (Some 0) ∷ None ∷ None ∷ None ∷ []), 16777216, [], running)
unfolding runs
loading-3 = refl

loading-4 : view loading (codes "main") [] 4 ((codes "a") ∷ (codes "b") ∷ (codes "c") ∷ (codes "d") ∷ (codes "e") ∷ (codes "f") ∷ (codes "g") ∷ []) (65535 ∷ 65536 ∷ 65547 ∷ 65548 ∷ 16777215 ∷ 16777216 ∷ []) ≡ Some ((((codes "main"), (codes "start"), 4, 16777216, None, ((Some 100663295) ∷ (Some 18446744073709551614) ∷ (Some 4294967294) ∷ (Some 18446744073709551614) ∷ None ∷ None ∷ None ∷ [])) ∷ []), (None ∷ (Some 254) ∷ (Some 0) ∷ None ∷ None ∷ None ∷ []), 16777216, [], running)
unfolding runs
loading-4 = refl

loading-5 : view loading (codes "main") [] 5 ((codes "a") ∷ (codes "b") ∷ (codes "c") ∷ (codes "d") ∷ (codes "e") ∷ (codes "f") ∷ (codes "g") ∷ []) (65535 ∷ 65536 ∷ 65547 ∷ 65548 ∷ 16777215 ∷ 16777216 ∷ []) ≡ Some ((((codes "main"), (codes "start"), 5, 16777216, None, ((Some 100663295) ∷ (Some 18446744073709551614) ∷ (Some 4294967294) ∷ (Some 18446744073709551614) ∷ (Some 65534) ∷ None ∷ None ∷ [])) ∷ []), (None ∷ (Some 254) ∷ (Some 0) ∷ None ∷ None ∷ None ∷ []), 16777216, [], running)
unfolding runs
loading-5 = refl

loading-6 : view loading (codes "main") [] 6 ((codes "a") ∷ (codes "b") ∷ (codes "c") ∷ (codes "d") ∷ (codes "e") ∷ (codes "f") ∷ (codes "g") ∷ []) (65535 ∷ 65536 ∷ 65547 ∷ 65548 ∷ 16777215 ∷ 16777216 ∷ []) ≡ Some ((((codes "main"), (codes "start"), 6, 16777216, None, ((Some 100663295) ∷ (Some 18446744073709551614) ∷ (Some 4294967294) ∷ (Some 18446744073709551614) ∷ (Some 65534) ∷ (Some 18446744073709551614) ∷ None ∷ [])) ∷ []), (None ∷ (Some 254) ∷ (Some 0) ∷ None ∷ None ∷ None ∷ []), 16777216, [], running)
unfolding runs
loading-6 = refl

loading-7 : view loading (codes "main") [] 7 ((codes "a") ∷ (codes "b") ∷ (codes "c") ∷ (codes "d") ∷ (codes "e") ∷ (codes "f") ∷ (codes "g") ∷ []) (65535 ∷ 65536 ∷ 65547 ∷ 65548 ∷ 16777215 ∷ 16777216 ∷ []) ≡ Some ((((codes "main"), (codes "start"), 6, 16777216, None, ((Some 100663295) ∷ (Some 18446744073709551614) ∷ (Some 4294967294) ∷ (Some 18446744073709551614) ∷ (Some 65534) ∷ (Some 18446744073709551614) ∷ None ∷ [])) ∷ []), (None ∷ (Some 254) ∷ (Some 0) ∷ None ∷ None ∷ None ∷ []), 16777216, [], (faulted (dead_address 65548)))
unfolding runs
loading-7 = refl

-- stores
abbrev pub stores : Program A0
stores = prog ((data_ (codes "d") None ((fields.Zeros 16) ∷ [])) ∷ []) ((func None (codes "main") [] ((block (codes "start") [] ((inst (insts.Store widths.L (n 18446744073709551613) ($ (codes "d")))) ∷ (inst (insts.Store widths.W (n 258) (n 65539))) ∷ (inst (insts.Store widths.H (n 772) (n 65544))) ∷ (inst (insts.Store widths.B (n 5) (n 65551))) ∷ (inst (insts.Blit ($ (codes "d")) (n 65544) 8)) ∷ (inst (insts.Store widths.W (n 1) (n 65549))) ∷ []) (jumps.Ret None)) ∷ [])) ∷ [])

stores-1 : view stores (codes "main") [] 1 [] (65536 ∷ 65537 ∷ 65538 ∷ 65539 ∷ 65540 ∷ 65541 ∷ 65542 ∷ 65543 ∷ 65544 ∷ 65545 ∷ 65546 ∷ 65547 ∷ 65548 ∷ 65549 ∷ 65550 ∷ 65551 ∷ 65552 ∷ []) ≡ Some ((((codes "main"), (codes "start"), 1, 16777216, None, []) ∷ []), ((Some 253) ∷ (Some 255) ∷ (Some 255) ∷ (Some 255) ∷ (Some 255) ∷ (Some 255) ∷ (Some 255) ∷ (Some 255) ∷ (Some 0) ∷ (Some 0) ∷ (Some 0) ∷ (Some 0) ∷ (Some 0) ∷ (Some 0) ∷ (Some 0) ∷ (Some 0) ∷ None ∷ []), 16777216, [], running)
unfolding runs
stores-1 = refl

stores-2 : view stores (codes "main") [] 2 [] (65536 ∷ 65537 ∷ 65538 ∷ 65539 ∷ 65540 ∷ 65541 ∷ 65542 ∷ 65543 ∷ 65544 ∷ 65545 ∷ 65546 ∷ 65547 ∷ 65548 ∷ 65549 ∷ 65550 ∷ 65551 ∷ 65552 ∷ []) ≡ Some ((((codes "main"), (codes "start"), 2, 16777216, None, []) ∷ []), ((Some 253) ∷ (Some 255) ∷ (Some 255) ∷ (Some 2) ∷ (Some 1) ∷ (Some 0) ∷ (Some 0) ∷ (Some 255) ∷ (Some 0) ∷ (Some 0) ∷ (Some 0) ∷ (Some 0) ∷ (Some 0) ∷ (Some 0) ∷ (Some 0) ∷ (Some 0) ∷ None ∷ []), 16777216, [], running)
unfolding runs
stores-2 = refl

stores-3 : view stores (codes "main") [] 3 [] (65536 ∷ 65537 ∷ 65538 ∷ 65539 ∷ 65540 ∷ 65541 ∷ 65542 ∷ 65543 ∷ 65544 ∷ 65545 ∷ 65546 ∷ 65547 ∷ 65548 ∷ 65549 ∷ 65550 ∷ 65551 ∷ 65552 ∷ []) ≡ Some ((((codes "main"), (codes "start"), 3, 16777216, None, []) ∷ []), ((Some 253) ∷ (Some 255) ∷ (Some 255) ∷ (Some 2) ∷ (Some 1) ∷ (Some 0) ∷ (Some 0) ∷ (Some 255) ∷ (Some 4) ∷ (Some 3) ∷ (Some 0) ∷ (Some 0) ∷ (Some 0) ∷ (Some 0) ∷ (Some 0) ∷ (Some 0) ∷ None ∷ []), 16777216, [], running)
unfolding runs
stores-3 = refl

stores-4 : view stores (codes "main") [] 4 [] (65536 ∷ 65537 ∷ 65538 ∷ 65539 ∷ 65540 ∷ 65541 ∷ 65542 ∷ 65543 ∷ 65544 ∷ 65545 ∷ 65546 ∷ 65547 ∷ 65548 ∷ 65549 ∷ 65550 ∷ 65551 ∷ 65552 ∷ []) ≡ Some ((((codes "main"), (codes "start"), 4, 16777216, None, []) ∷ []), ((Some 253) ∷ (Some 255) ∷ (Some 255) ∷ (Some 2) ∷ (Some 1) ∷ (Some 0) ∷ (Some 0) ∷ (Some 255) ∷ (Some 4) ∷ (Some 3) ∷ (Some 0) ∷ (Some 0) ∷ (Some 0) ∷ (Some 0) ∷ (Some 0) ∷ (Some 5) ∷ None ∷ []), 16777216, [], running)
unfolding runs
stores-4 = refl

stores-5 : view stores (codes "main") [] 5 [] (65536 ∷ 65537 ∷ 65538 ∷ 65539 ∷ 65540 ∷ 65541 ∷ 65542 ∷ 65543 ∷ 65544 ∷ 65545 ∷ 65546 ∷ 65547 ∷ 65548 ∷ 65549 ∷ 65550 ∷ 65551 ∷ 65552 ∷ []) ≡ Some ((((codes "main"), (codes "start"), 5, 16777216, None, []) ∷ []), ((Some 253) ∷ (Some 255) ∷ (Some 255) ∷ (Some 2) ∷ (Some 1) ∷ (Some 0) ∷ (Some 0) ∷ (Some 255) ∷ (Some 253) ∷ (Some 255) ∷ (Some 255) ∷ (Some 2) ∷ (Some 1) ∷ (Some 0) ∷ (Some 0) ∷ (Some 255) ∷ None ∷ []), 16777216, [], running)
unfolding runs
stores-5 = refl

stores-6 : view stores (codes "main") [] 6 [] (65536 ∷ 65537 ∷ 65538 ∷ 65539 ∷ 65540 ∷ 65541 ∷ 65542 ∷ 65543 ∷ 65544 ∷ 65545 ∷ 65546 ∷ 65547 ∷ 65548 ∷ 65549 ∷ 65550 ∷ 65551 ∷ 65552 ∷ []) ≡ Some ((((codes "main"), (codes "start"), 5, 16777216, None, []) ∷ []), ((Some 253) ∷ (Some 255) ∷ (Some 255) ∷ (Some 2) ∷ (Some 1) ∷ (Some 0) ∷ (Some 0) ∷ (Some 255) ∷ (Some 253) ∷ (Some 255) ∷ (Some 255) ∷ (Some 2) ∷ (Some 1) ∷ (Some 0) ∷ (Some 0) ∷ (Some 255) ∷ None ∷ []), 16777216, [], (faulted (dead_address 65549)))
unfolding runs
stores-6 = refl

-- converts
abbrev pub converts : Program A0
converts = prog [] ((func None (codes "main") [] ((block (codes "start") [] ((inst (insts.Assign (l (codes "a")) (exprs.Extend extensions.Sw (n 4294967295)))) ∷ (inst (insts.Assign (l (codes "b")) (exprs.Extend extensions.Uw (n 18446744073709551615)))) ∷ (inst (insts.Assign (w (codes "c")) (exprs.Extend extensions.Sh (n 65535)))) ∷ (inst (insts.Assign (l (codes "d")) (exprs.Extend extensions.Ub (n 511)))) ∷ (inst (insts.Assign (w (codes "e")) (exprs.Compare compares.Slt classes.W (n 18446744073709551615) (n 1)))) ∷ (inst (insts.Assign (l (codes "f")) (exprs.Compare compares.Ult classes.L (n 18446744073709551615) (n 1)))) ∷ (inst (insts.Assign (w (codes "g")) (exprs.Compare compares.Eq classes.W (n 4294967297) (n 1)))) ∷ (inst (insts.Assign (l (codes "h")) (exprs.Unary unary.Neg (n 1)))) ∷ (inst (insts.Assign (w (codes "i")) (exprs.Binary binary.Sar (n 18446744073709551608) (n 1)))) ∷ (inst (insts.Assign (w (codes "j")) (exprs.Binary binary.Udiv (n 18446744073709551615) (n 2)))) ∷ (inst (insts.Assign (l (codes "k")) (exprs.Binary binary.Xor (n 18446744073709551615) (n 5)))) ∷ []) (jumps.Ret None)) ∷ [])) ∷ [])

converts-11 : view converts (codes "main") [] 11 ((codes "a") ∷ (codes "b") ∷ (codes "c") ∷ (codes "d") ∷ (codes "e") ∷ (codes "f") ∷ (codes "g") ∷ (codes "h") ∷ (codes "i") ∷ (codes "j") ∷ (codes "k") ∷ []) (65535 ∷ 65536 ∷ 16777215 ∷ 16777216 ∷ []) ≡ Some ((((codes "main"), (codes "start"), 11, 16777216, None, ((Some 18446744073709551615) ∷ (Some 4294967295) ∷ (Some 4294967295) ∷ (Some 255) ∷ (Some 1) ∷ (Some 0) ∷ (Some 1) ∷ (Some 18446744073709551615) ∷ (Some 4294967292) ∷ (Some 2147483647) ∷ (Some 18446744073709551610) ∷ [])) ∷ []), (None ∷ None ∷ None ∷ None ∷ []), 16777216, [], running)
unfolding runs
converts-11 = refl

-- deep
abbrev pub deep : Program A0
deep = prog [] ((func None (codes "f") (param types.L (codes "n") ∷ []) ((block (codes "s") [] ((inst (insts.Assign (l (codes "m")) (exprs.Binary binary.Sub (% (codes "n")) (n 1)))) ∷ (call None ($ (codes "f")) (arg types.L (% (codes "m")) ∷ [])) ∷ []) (jumps.Ret None)) ∷ [])) ∷ (func None (codes "main") [] ((block (codes "start") [] ((call None ($ (codes "f")) (arg types.L (n 3) ∷ [])) ∷ []) (jumps.Ret None)) ∷ [])) ∷ [])

deep-1 : view deep (codes "main") [] 1 ((codes "m") ∷ (codes "n") ∷ []) (65535 ∷ 65536 ∷ 16777215 ∷ 16777216 ∷ []) ≡ Some ((((codes "f"), (codes "s"), 0, 16777216, None, (None ∷ (Some 3) ∷ [])) ∷ ((codes "main"), (codes "start"), 1, 16777216, None, (None ∷ None ∷ [])) ∷ []), (None ∷ None ∷ None ∷ None ∷ []), 16777216, [], running)
unfolding runs
deep-1 = refl

deep-3 : view deep (codes "main") [] 3 ((codes "m") ∷ (codes "n") ∷ []) (65535 ∷ 65536 ∷ 16777215 ∷ 16777216 ∷ []) ≡ Some ((((codes "f"), (codes "s"), 0, 16777216, None, (None ∷ (Some 2) ∷ [])) ∷ ((codes "f"), (codes "s"), 2, 16777216, None, ((Some 2) ∷ (Some 3) ∷ [])) ∷ ((codes "main"), (codes "start"), 1, 16777216, None, (None ∷ None ∷ [])) ∷ []), (None ∷ None ∷ None ∷ None ∷ []), 16777216, [], running)
unfolding runs
deep-3 = refl

deep-6 : view deep (codes "main") [] 6 ((codes "m") ∷ (codes "n") ∷ []) (65535 ∷ 65536 ∷ 16777215 ∷ 16777216 ∷ []) ≡ Some ((((codes "f"), (codes "s"), 1, 16777216, None, ((Some 0) ∷ (Some 1) ∷ [])) ∷ ((codes "f"), (codes "s"), 2, 16777216, None, ((Some 1) ∷ (Some 2) ∷ [])) ∷ ((codes "f"), (codes "s"), 2, 16777216, None, ((Some 2) ∷ (Some 3) ∷ [])) ∷ ((codes "main"), (codes "start"), 1, 16777216, None, (None ∷ None ∷ [])) ∷ []), (None ∷ None ∷ None ∷ None ∷ []), 16777216, [], running)
unfolding runs
deep-6 = refl

-- unset_ret
abbrev pub unset_ret : Program A0
unset_ret = prog [] ((func (Some types.W) (codes "f") [] ((block (codes "s") [] [] (jumps.Ret (Some (% (codes "x"))))) ∷ (block (codes "t") [] ((inst (insts.Assign (w (codes "x")) (exprs.Unary unary.Copy (n 1)))) ∷ []) (jumps.Ret (Some (% (codes "x"))))) ∷ [])) ∷ (func None (codes "main") [] ((block (codes "start") [] ((call None ($ (codes "f")) []) ∷ []) (jumps.Ret None)) ∷ [])) ∷ [])

unset_ret-2 : view unset_ret (codes "main") [] 2 ((codes "x") ∷ []) (65535 ∷ 65536 ∷ 16777215 ∷ 16777216 ∷ []) ≡ Some ((((codes "f"), (codes "s"), 0, 16777216, None, (None ∷ [])) ∷ ((codes "main"), (codes "start"), 1, 16777216, None, (None ∷ [])) ∷ []), (None ∷ None ∷ None ∷ None ∷ []), 16777216, [], (faulted (unset_temporary (codes "x"))))
unfolding runs
unset_ret-2 = refl

abbrev pub endless_calls : Program A0
endless_calls = prog [] ((func None (codes "f") [] ((block (codes "s") [] ((call None ($ (codes "f")) []) ∷ []) (jumps.Ret None)) ∷ [])) ∷ [])

status_after : ℕ → Option Status
unfolding runs
status_after k = of_start (λ (s : State). (after endless_calls s k).status) (start_of endless_calls (codes "f") [])

endless_calls-1000 : status_after 1000 ≡ Some (faulted calls_too_deep)
unfolding runs status_after
endless_calls-1000 = refl

endless_calls-999 : status_after 999 ≡ Some running
unfolding runs status_after
endless_calls-999 = refl

-- a caller whose stack isn't empty, and zeros between two chunks: padding is live, and a call gives back what it took
abbrev pub padded_stack : Program A0
padded_stack = prog [] ((func None (codes "f") [] ((block (codes "s") [] ((inst (insts.Alloc (l (codes "q")) allocs.Eight (n 1))) ∷ []) (jumps.Ret None)) ∷ [])) ∷ (func None (codes "main") [] ((block (codes "start") [] ((inst (insts.Alloc (l (codes "p")) allocs.Four (n 1))) ∷ (call None ($ (codes "f")) []) ∷ (inst (insts.Store widths.B (n 9) (n 16777216))) ∷ (inst (insts.Alloc (l (codes "r")) allocs.Four (n 2))) ∷ []) (jumps.Ret None)) ∷ [])) ∷ [])

padded_stack-3 : view padded_stack (codes "main") [] 3 ((codes "p") ∷ (codes "q") ∷ []) (16777216 ∷ 16777217 ∷ 16777223 ∷ 16777224 ∷ 16777225 ∷ []) ≡ Some ((((codes "f"), (codes "s"), 1, 16777217, None, (None ∷ Some 16777224 ∷ [])) ∷ ((codes "main"), (codes "start"), 2, 16777216, None, (Some 16777216 ∷ None ∷ [])) ∷ []), (Some 0 ∷ Some 0 ∷ Some 0 ∷ Some 0 ∷ None ∷ []), 16777225, [], running)
unfolding runs
padded_stack-3 = refl

padded_stack-4 : view padded_stack (codes "main") [] 4 ((codes "p") ∷ []) (16777216 ∷ 16777217 ∷ 16777223 ∷ 16777224 ∷ []) ≡ Some ((((codes "main"), (codes "start"), 2, 16777216, None, (Some 16777216 ∷ [])) ∷ []), (Some 0 ∷ None ∷ None ∷ None ∷ []), 16777217, [], running)
unfolding runs
padded_stack-4 = refl

padded_stack-6 : view padded_stack (codes "main") [] 6 ((codes "p") ∷ (codes "r") ∷ []) (16777216 ∷ 16777217 ∷ 16777219 ∷ 16777220 ∷ 16777221 ∷ 16777222 ∷ []) ≡ Some ((((codes "main"), (codes "start"), 4, 16777216, None, (Some 16777216 ∷ Some 16777220 ∷ [])) ∷ []), (Some 9 ∷ Some 0 ∷ Some 0 ∷ Some 0 ∷ Some 0 ∷ None ∷ []), 16777222, [], running)
unfolding runs
padded_stack-6 = refl
