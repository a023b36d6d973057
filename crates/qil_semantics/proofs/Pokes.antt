-- Pokes, computed. What is expected was worked out by another implementation of the meaning.
use Rattle.std.proofs.Common.{◌≡◌, refl, [], ◌∷◌, Some, None, Ok, Err}
use Rattle.std.specs.Prelude.{codes}
use Rattle.qil_tree.specs.declared.ops.AbiType.TheVariants as types
use Rattle.qil_tree.specs.declared.ops.Width.TheVariants as widths
use Rattle.qil_tree.specs.declared.ops.UnaryOp.TheVariants as unary
use Rattle.qil_tree.specs.declared.ops.BinaryOp.TheVariants as binary
use Rattle.qil_tree.specs.declared.ops.LoadOp.TheVariants as loads
use Rattle.qil_tree.specs.declared.ops.AllocOp.TheVariants as allocs
use Rattle.qil_tree.specs.declared.tree.Expr.TheVariants as exprs
use Rattle.qil_tree.specs.declared.tree.InstKind.TheVariants as insts
use Rattle.qil_tree.specs.declared.tree.JumpKind.TheVariants as jumps
use Rattle.qil_tree.specs.declared.tree.Item.TheVariants as items
use Rattle.qil_tree.specs.declared.tree.Field.TheVariants as fields
use Rattle.qil_tree.specs.declared.tree.Program.{Program}
use Rattle.qil_ops.specs.declared.division.DivFault.TheVariants.{Overflow}
use Rattle.qil_semantics.specs.State.{running, done, faulted, division}
use Rattle.qil_semantics.proofs.Programs.{A0, n, %, $, w, l, inst, arg, call, block, param, func, data_, prog, poked_view, runs}
use Rattle.qil_semantics.specs.Poke.{no_frame, dead_bytes, unknown_temporary, poke_temp, poke_memory}

abbrev overflow_poked : Program A0
overflow_poked = prog [] ((func (Some types.W) (codes "main") [] ((block (codes "start") [] ((inst (insts.Assign (w (codes "q")) (exprs.Binary binary.Div (n 18446744071562067968) (n 18446744073709551615)))) ∷ []) (jumps.Ret (Some (% (codes "q"))))) ∷ [])) ∷ [])

overflow_poked-0 : poked_view overflow_poked (codes "main") [] 1 ((codes "q") ∷ []) (65535 ∷ 65536 ∷ 65537 ∷ 65538 ∷ 65539 ∷ 65540 ∷ 16777215 ∷ 16777216 ∷ 16777217 ∷ 16777219 ∷ 16777220 ∷ []) (λ t. poke_temp overflow_poked t (codes "q") 7) ≡ Some (Ok ((((codes "main"), (codes "start"), 0, 16777216, None, ((Some 7) ∷ [])) ∷ []), (None ∷ None ∷ None ∷ None ∷ None ∷ None ∷ None ∷ None ∷ None ∷ None ∷ None ∷ []), 16777216, [], (faulted (division Overflow))))
unfolding runs
overflow_poked-0 = refl

overflow_poked-1 : poked_view overflow_poked (codes "main") [] 1 ((codes "q") ∷ []) (65535 ∷ 65536 ∷ 65537 ∷ 65538 ∷ 65539 ∷ 65540 ∷ 16777215 ∷ 16777216 ∷ 16777217 ∷ 16777219 ∷ 16777220 ∷ []) (λ t. poke_temp overflow_poked t (codes "q") 18446744073709551615) ≡ Some (Ok ((((codes "main"), (codes "start"), 0, 16777216, None, ((Some 4294967295) ∷ [])) ∷ []), (None ∷ None ∷ None ∷ None ∷ None ∷ None ∷ None ∷ None ∷ None ∷ None ∷ None ∷ []), 16777216, [], (faulted (division Overflow))))
unfolding runs
overflow_poked-1 = refl

overflow_poked-2 : poked_view overflow_poked (codes "main") [] 0 ((codes "q") ∷ []) (65535 ∷ 65536 ∷ 65537 ∷ 65538 ∷ 65539 ∷ 65540 ∷ 16777215 ∷ 16777216 ∷ 16777217 ∷ 16777219 ∷ 16777220 ∷ []) (λ t. poke_temp overflow_poked t (codes "z") 1) ≡ Some (Err unknown_temporary)
unfolding runs
overflow_poked-2 = refl

overflow_poked-3 : poked_view overflow_poked (codes "main") [] 1 ((codes "q") ∷ []) (65535 ∷ 65536 ∷ 65537 ∷ 65538 ∷ 65539 ∷ 65540 ∷ 16777215 ∷ 16777216 ∷ 16777217 ∷ 16777219 ∷ 16777220 ∷ []) (λ t. poke_memory t 0 1 1) ≡ Some (Err dead_bytes)
unfolding runs
overflow_poked-3 = refl

abbrev word_poked : Program A0
word_poked = prog ((data_ (codes "d") None ((fields.Values widths.W ((items.Number 5) ∷ [])) ∷ [])) ∷ []) ((func (Some types.W) (codes "main") [] ((block (codes "start") [] ((inst (insts.Assign (w (codes "x")) (exprs.Load loads.Sw ($ (codes "d"))))) ∷ []) (jumps.Ret (Some (% (codes "x"))))) ∷ [])) ∷ [])

word_poked-0 : poked_view word_poked (codes "main") [] 0 ((codes "x") ∷ []) (65535 ∷ 65536 ∷ 65537 ∷ 65538 ∷ 65539 ∷ 65540 ∷ 16777215 ∷ 16777216 ∷ 16777217 ∷ 16777219 ∷ 16777220 ∷ []) (λ t. poke_memory t 65536 4 9) ≡ Some (Ok ((((codes "main"), (codes "start"), 0, 16777216, None, (None ∷ [])) ∷ []), (None ∷ (Some 9) ∷ (Some 0) ∷ (Some 0) ∷ (Some 0) ∷ None ∷ None ∷ None ∷ None ∷ None ∷ None ∷ []), 16777216, [], running))
unfolding runs
word_poked-0 = refl

word_poked-1 : poked_view word_poked (codes "main") [] 0 ((codes "x") ∷ []) (65535 ∷ 65536 ∷ 65537 ∷ 65538 ∷ 65539 ∷ 65540 ∷ 16777215 ∷ 16777216 ∷ 16777217 ∷ 16777219 ∷ 16777220 ∷ []) (λ t. poke_memory t 65537 4 9) ≡ Some (Err dead_bytes)
unfolding runs
word_poked-1 = refl

word_poked-2 : poked_view word_poked (codes "main") [] 0 ((codes "x") ∷ []) (65535 ∷ 65536 ∷ 65537 ∷ 65538 ∷ 65539 ∷ 65540 ∷ 16777215 ∷ 16777216 ∷ 16777217 ∷ 16777219 ∷ 16777220 ∷ []) (λ t. poke_memory t 65539 1 511) ≡ Some (Ok ((((codes "main"), (codes "start"), 0, 16777216, None, (None ∷ [])) ∷ []), (None ∷ (Some 5) ∷ (Some 0) ∷ (Some 0) ∷ (Some 255) ∷ None ∷ None ∷ None ∷ None ∷ None ∷ None ∷ []), 16777216, [], running))
unfolding runs
word_poked-2 = refl

word_poked-3 : poked_view word_poked (codes "main") [] 2 ((codes "x") ∷ []) (65535 ∷ 65536 ∷ 65537 ∷ 65538 ∷ 65539 ∷ 65540 ∷ 16777215 ∷ 16777216 ∷ 16777217 ∷ 16777219 ∷ 16777220 ∷ []) (λ t. poke_temp word_poked t (codes "x") 1) ≡ Some (Err no_frame)
unfolding runs
word_poked-3 = refl

word_poked-4 : poked_view word_poked (codes "main") [] 2 ((codes "x") ∷ []) (65535 ∷ 65536 ∷ 65537 ∷ 65538 ∷ 65539 ∷ 65540 ∷ 16777215 ∷ 16777216 ∷ 16777217 ∷ 16777219 ∷ 16777220 ∷ []) (λ t. poke_memory t 65536 2 18446744073709551614) ≡ Some (Ok ([], (None ∷ (Some 254) ∷ (Some 255) ∷ (Some 0) ∷ (Some 0) ∷ None ∷ None ∷ None ∷ None ∷ None ∷ None ∷ []), 16777216, [], (done (Some 5))))
unfolding runs
word_poked-4 = refl

abbrev callee_poked : Program A0
callee_poked = prog [] ((func None (codes "f") (param types.L (codes "a") ∷ []) ((block (codes "s") [] ((inst (insts.Alloc (l (codes "p")) allocs.Four (n 4))) ∷ []) (jumps.Ret None)) ∷ [])) ∷ (func None (codes "main") [] ((block (codes "start") [] ((inst (insts.Assign (w (codes "a")) (exprs.Unary unary.Copy (n 3)))) ∷ (call None ($ (codes "f")) (arg types.L (n 5) ∷ [])) ∷ []) (jumps.Ret None)) ∷ [])) ∷ [])

callee_poked-0 : poked_view callee_poked (codes "main") [] 3 ((codes "a") ∷ (codes "p") ∷ []) (65535 ∷ 65536 ∷ 65537 ∷ 65538 ∷ 65539 ∷ 65540 ∷ 16777215 ∷ 16777216 ∷ 16777217 ∷ 16777219 ∷ 16777220 ∷ []) (λ t. poke_temp callee_poked t (codes "a") 18446744073709551615) ≡ Some (Ok ((((codes "f"), (codes "s"), 1, 16777216, None, ((Some 18446744073709551615) ∷ (Some 16777216) ∷ [])) ∷ ((codes "main"), (codes "start"), 2, 16777216, None, ((Some 3) ∷ None ∷ [])) ∷ []), (None ∷ None ∷ None ∷ None ∷ None ∷ None ∷ None ∷ (Some 0) ∷ (Some 0) ∷ (Some 0) ∷ None ∷ []), 16777220, [], running))
unfolding runs
callee_poked-0 = refl

callee_poked-1 : poked_view callee_poked (codes "main") [] 3 ((codes "a") ∷ (codes "p") ∷ []) (65535 ∷ 65536 ∷ 65537 ∷ 65538 ∷ 65539 ∷ 65540 ∷ 16777215 ∷ 16777216 ∷ 16777217 ∷ 16777219 ∷ 16777220 ∷ []) (λ t. poke_memory t 16777216 4 18446744073709551615) ≡ Some (Ok ((((codes "f"), (codes "s"), 1, 16777216, None, ((Some 5) ∷ (Some 16777216) ∷ [])) ∷ ((codes "main"), (codes "start"), 2, 16777216, None, ((Some 3) ∷ None ∷ [])) ∷ []), (None ∷ None ∷ None ∷ None ∷ None ∷ None ∷ None ∷ (Some 255) ∷ (Some 255) ∷ (Some 255) ∷ None ∷ []), 16777220, [], running))
unfolding runs
callee_poked-1 = refl

callee_poked-2 : poked_view callee_poked (codes "main") [] 3 ((codes "a") ∷ (codes "p") ∷ []) (65535 ∷ 65536 ∷ 65537 ∷ 65538 ∷ 65539 ∷ 65540 ∷ 16777215 ∷ 16777216 ∷ 16777217 ∷ 16777219 ∷ 16777220 ∷ []) (λ t. poke_memory t 16777216 8 1) ≡ Some (Err dead_bytes)
unfolding runs
callee_poked-2 = refl

callee_poked-3 : poked_view callee_poked (codes "main") [] 3 ((codes "a") ∷ (codes "p") ∷ []) (65535 ∷ 65536 ∷ 65537 ∷ 65538 ∷ 65539 ∷ 65540 ∷ 16777215 ∷ 16777216 ∷ 16777217 ∷ 16777219 ∷ 16777220 ∷ []) (λ t. poke_temp callee_poked t (codes "p") 5) ≡ Some (Ok ((((codes "f"), (codes "s"), 1, 16777216, None, ((Some 5) ∷ (Some 5) ∷ [])) ∷ ((codes "main"), (codes "start"), 2, 16777216, None, ((Some 3) ∷ None ∷ [])) ∷ []), (None ∷ None ∷ None ∷ None ∷ None ∷ None ∷ None ∷ (Some 0) ∷ (Some 0) ∷ (Some 0) ∷ None ∷ []), 16777220, [], running))
unfolding runs
callee_poked-3 = refl

callee_poked-4 : poked_view callee_poked (codes "main") [] 1 ((codes "a") ∷ (codes "p") ∷ []) (65535 ∷ 65536 ∷ 65537 ∷ 65538 ∷ 65539 ∷ 65540 ∷ 16777215 ∷ 16777216 ∷ 16777217 ∷ 16777219 ∷ 16777220 ∷ []) (λ t. poke_temp callee_poked t (codes "a") 18446744073709551615) ≡ Some (Ok ((((codes "main"), (codes "start"), 1, 16777216, None, ((Some 4294967295) ∷ None ∷ [])) ∷ []), (None ∷ None ∷ None ∷ None ∷ None ∷ None ∷ None ∷ None ∷ None ∷ None ∷ None ∷ []), 16777216, [], running))
unfolding runs
callee_poked-4 = refl

callee_poked-5 : poked_view callee_poked (codes "main") [] 4 ((codes "a") ∷ (codes "p") ∷ []) (65535 ∷ 65536 ∷ 65537 ∷ 65538 ∷ 65539 ∷ 65540 ∷ 16777215 ∷ 16777216 ∷ 16777217 ∷ 16777219 ∷ 16777220 ∷ []) (λ t. poke_memory t 16777216 4 1) ≡ Some (Err dead_bytes)
unfolding runs
callee_poked-5 = refl

callee_poked-6 : poked_view callee_poked (codes "main") [] 5 ((codes "a") ∷ (codes "p") ∷ []) (65535 ∷ 65536 ∷ 65537 ∷ 65538 ∷ 65539 ∷ 65540 ∷ 16777215 ∷ 16777216 ∷ 16777217 ∷ 16777219 ∷ 16777220 ∷ []) (λ t. poke_temp callee_poked t (codes "a") 1) ≡ Some (Err no_frame)
unfolding runs
callee_poked-6 = refl

-- eight bytes, where there are four
word_poked-8 : poked_view word_poked (codes "main") [] 0 ((codes "x") ∷ []) (65535 ∷ 65536 ∷ 65537 ∷ 65538 ∷ 65539 ∷ 65540 ∷ []) (λ t. poke_memory t 65536 8 9) ≡ Some (Err dead_bytes)
unfolding runs
word_poked-8 = refl

abbrev long_poked : Program A0
long_poked = prog ((data_ (codes "d") None ((fields.Zeros 8) ∷ [])) ∷ []) ((func None (codes "main") [] ((block (codes "start") [] [] (jumps.Ret None)) ∷ [])) ∷ [])

long_poked-8 : poked_view long_poked (codes "main") [] 0 [] (65535 ∷ 65536 ∷ 65537 ∷ 65538 ∷ 65539 ∷ 65540 ∷ 65541 ∷ 65542 ∷ 65543 ∷ 65544 ∷ []) (λ t. poke_memory t 65536 8 72623859790382856) ≡ Some (Ok ((((codes "main"), (codes "start"), 0, 16777216, None, []) ∷ []), (None ∷ Some 8 ∷ Some 7 ∷ Some 6 ∷ Some 5 ∷ Some 4 ∷ Some 3 ∷ Some 2 ∷ Some 1 ∷ None ∷ []), 16777216, [], running))
unfolding runs
long_poked-8 = refl

long_poked-1 : poked_view long_poked (codes "main") [] 1 [] (65536 ∷ 65542 ∷ 65543 ∷ 65544 ∷ []) (λ t. poke_memory t 65543 1 72623859790382856) ≡ Some (Ok ([], (Some 0 ∷ Some 0 ∷ Some 8 ∷ None ∷ []), 16777216, [], done None))
unfolding runs
long_poked-1 = refl
