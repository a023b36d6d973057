-- Faults, jumps, and types narrower than a word, computed. The values were worked out by another program or by hand.
use Rattle.std.proofs.Common.{◌≡◌, refl, ℕ, [], ◌∷◌, Some, None, Err}
use Rattle.std.specs.Prelude.{codes}
use Rattle.qil_tree.specs.declared.ops.AbiType.TheVariants as types
use Rattle.qil_tree.specs.declared.ops.Width.TheVariants as widths
use Rattle.qil_tree.specs.declared.ops.BinaryOp.TheVariants as binary
use Rattle.qil_tree.specs.declared.ops.LoadOp.TheVariants as loads
use Rattle.qil_tree.specs.declared.ops.AllocOp.TheVariants as allocs
use Rattle.qil_tree.specs.declared.tree.Expr.TheVariants as exprs
use Rattle.qil_tree.specs.declared.tree.InstKind.TheVariants as insts
use Rattle.qil_tree.specs.declared.tree.JumpKind.TheVariants as jumps
use Rattle.qil_tree.specs.declared.tree.Item.TheVariants as items
use Rattle.qil_tree.specs.declared.tree.Field.TheVariants as fields
use Rattle.qil_tree.specs.declared.tree.Program.{Program}
use Rattle.qil_ops.specs.declared.division.DivFault.TheVariants.{Zero, Overflow}
use Rattle.qil_semantics.specs.declared.start.StartFault.TheVariants.{NoEntry, ArgumentCount}
use Rattle.qil_semantics.specs.State.{running, done, exited, faulted, division, dead_address, unset_temporary, overlapping_blit, stack_full, no_function, call_shape}
use Rattle.qil_semantics.specs.Start.{start_of}
use Rattle.qil_semantics.proofs.Programs.{A0, n, %, $, w, l, inst, arg, call, result, block, param, func, prog, of_start, values_in, temps_after, status_after, straight, data_, runs}

-- ---- types narrower than a word: each as parameter, argument, return type and type at the call

abbrev narrow : Program A0
narrow = prog [] ((func None (codes "main") [] ((block (codes "start") [] ((call (result (codes "t0") types.Uh) ($ (codes "f0")) (arg types.Sh (n 103300) ∷ [])) ∷ (call (result (codes "t1") types.Sb) ($ (codes "f0")) (arg types.Ub (n 511) ∷ [])) ∷ (call (result (codes "t2") types.Sh) ($ (codes "f0")) (arg types.Sb (n 200) ∷ [])) ∷ (call (result (codes "t3") types.W) ($ (codes "f0")) (arg types.W (n 32896) ∷ [])) ∷ (call (result (codes "t4") types.Sb) ($ (codes "f1")) (arg types.Uh (n 103300) ∷ [])) ∷ (call (result (codes "t5") types.Ub) ($ (codes "f1")) (arg types.Sh (n 511) ∷ [])) ∷ (call (result (codes "t6") types.Uh) ($ (codes "f1")) (arg types.Ub (n 200) ∷ [])) ∷ (call (result (codes "t7") types.W) ($ (codes "f1")) (arg types.W (n 32896) ∷ [])) ∷ (call (result (codes "t8") types.Ub) ($ (codes "f2")) (arg types.Sb (n 103300) ∷ [])) ∷ (call (result (codes "t9") types.Sh) ($ (codes "f2")) (arg types.Uh (n 511) ∷ [])) ∷ (call (result (codes "t10") types.Sb) ($ (codes "f2")) (arg types.Sh (n 200) ∷ [])) ∷ (call (result (codes "t11") types.W) ($ (codes "f2")) (arg types.W (n 32896) ∷ [])) ∷ (call (result (codes "t12") types.Sh) ($ (codes "f3")) (arg types.Ub (n 103300) ∷ [])) ∷ (call (result (codes "t13") types.Uh) ($ (codes "f3")) (arg types.Sb (n 511) ∷ [])) ∷ (call (result (codes "t14") types.Ub) ($ (codes "f3")) (arg types.Uh (n 200) ∷ [])) ∷ (call (result (codes "t15") types.W) ($ (codes "f3")) (arg types.W (n 32896) ∷ [])) ∷ []) (jumps.Ret None)) ∷ [])) ∷ (func (Some types.Ub) (codes "f0") (param types.Sb (codes "a") ∷ []) ((block (codes "s") [] [] (jumps.Ret (Some (% (codes "a"))))) ∷ [])) ∷ (func (Some types.Sh) (codes "f1") (param types.Ub (codes "a") ∷ []) ((block (codes "s") [] [] (jumps.Ret (Some (% (codes "a"))))) ∷ [])) ∷ (func (Some types.Uh) (codes "f2") (param types.Sh (codes "a") ∷ []) ((block (codes "s") [] [] (jumps.Ret (Some (% (codes "a"))))) ∷ [])) ∷ (func (Some types.Sb) (codes "f3") (param types.Uh (codes "a") ∷ []) ((block (codes "s") [] [] (jumps.Ret (Some (% (codes "a"))))) ∷ [])) ∷ [])

narrow-values : temps_after narrow 32 (codes "t0" ∷ codes "t1" ∷ codes "t2" ∷ codes "t3" ∷ codes "t4" ∷ codes "t5" ∷ codes "t6" ∷ codes "t7" ∷ codes "t8" ∷ codes "t9" ∷ codes "t10" ∷ codes "t11" ∷ codes "t12" ∷ codes "t13" ∷ codes "t14" ∷ codes "t15" ∷ []) ≡ Some (Some 132 ∷ Some 4294967295 ∷ Some 200 ∷ Some 128 ∷ Some 4294967172 ∷ Some 255 ∷ Some 200 ∷ Some 128 ∷ Some 132 ∷ Some 511 ∷ Some 4294967240 ∷ Some 32896 ∷ Some 4294967172 ∷ Some 65535 ∷ Some 200 ∷ Some 4294967168 ∷ [])
unfolding runs
narrow-values = refl

-- of two parameters of one name the later counts
abbrev parameters : Program A0
parameters = prog [] ((func None (codes "main") [] ((block (codes "start") [] ((call (result (codes "r") types.W) ($ (codes "f")) (arg types.W (n 1) ∷ arg types.W (n 2) ∷ [])) ∷ []) (jumps.Ret None)) ∷ [])) ∷ (func (Some types.W) (codes "f") (param types.W (codes "a") ∷ param types.W (codes "a") ∷ []) ((block (codes "s") [] [] (jumps.Ret (Some (% (codes "a"))))) ∷ [])) ∷ [])

parameters-later : temps_after parameters 2 (codes "r" ∷ []) ≡ Some (Some 2 ∷ [])
unfolding runs
parameters-later = refl

-- data that takes a built-in's name is meant where that name stands
abbrev taken_name : Program A0
taken_name = prog ((data_ (codes "putchar") None ((fields.Values widths.B ((items.Number 7) ∷ [])) ∷ [])) ∷ []) ((func None (codes "main") [] ((block (codes "start") [] ((call None ($ (codes "putchar")) (arg types.W (n 65) ∷ [])) ∷ []) (jumps.Ret None)) ∷ [])) ∷ [])

taken_name-no_function : status_after taken_name 1 ≡ Some (faulted (no_function 65536))
unfolding runs
taken_name-no_function = refl

abbrev entry : Program A0
entry = prog [] ((func None (codes "main") (param types.Sb (codes "p0") ∷ param types.Ub (codes "p1") ∷ param types.Sh (codes "p2") ∷ param types.Uh (codes "p3") ∷ param types.W (codes "p4") ∷ param types.L (codes "p5") ∷ []) ((block (codes "s") [] [] (jumps.Ret None)) ∷ [])) ∷ [])

entry-arguments : of_start (λ s. values_in (codes "p0" ∷ codes "p1" ∷ codes "p2" ∷ codes "p3" ∷ codes "p4" ∷ codes "p5" ∷ []) s.frames) (start_of entry (codes "main") (103300 ∷ 103300 ∷ 103300 ∷ 103300 ∷ 4294967301 ∷ 9223372036854775813 ∷ [])) ≡ Some (Some 4294967172 ∷ Some 132 ∷ Some 4294939524 ∷ Some 37764 ∷ Some 5 ∷ Some 9223372036854775813 ∷ [])
unfolding runs
entry-arguments = refl

-- another number of arguments, and another name
entry-too_few : start_of entry (codes "main") [] ≡ Err ArgumentCount
unfolding runs
entry-too_few = refl

entry-unknown : start_of entry (codes "nope") [] ≡ Err NoEntry
unfolding runs
entry-unknown = refl

-- ---- faults

-- `div` by 0
div_by_zero : status_after (straight ((inst (insts.Assign (w (codes "x")) (exprs.Binary binary.Div (n 1) (n 4294967296)))) ∷ [])) 1 ≡ Some (faulted (division Zero))
unfolding runs
div_by_zero = refl

-- `rem` by 0
rem_by_zero : status_after (straight ((inst (insts.Assign (w (codes "x")) (exprs.Binary binary.Rem (n 1) (n 4294967296)))) ∷ [])) 1 ≡ Some (faulted (division Zero))
unfolding runs
rem_by_zero = refl

-- `udiv` by 0
udiv_by_zero : status_after (straight ((inst (insts.Assign (w (codes "x")) (exprs.Binary binary.Udiv (n 1) (n 4294967296)))) ∷ [])) 1 ≡ Some (faulted (division Zero))
unfolding runs
udiv_by_zero = refl

-- `urem` by 0
urem_by_zero : status_after (straight ((inst (insts.Assign (w (codes "x")) (exprs.Binary binary.Urem (n 1) (n 4294967296)))) ∷ [])) 1 ≡ Some (faulted (division Zero))
unfolding runs
urem_by_zero = refl

-- the least of a class by -1
div_overflow_l : status_after (straight ((inst (insts.Assign (l (codes "x")) (exprs.Binary binary.Div (n 9223372036854775808) (n 18446744073709551615)))) ∷ [])) 1 ≡ Some (faulted (division Overflow))
unfolding runs
div_overflow_l = refl

-- the least of a class by -1
rem_overflow_l : status_after (straight ((inst (insts.Assign (l (codes "x")) (exprs.Binary binary.Rem (n 9223372036854775808) (n 18446744073709551615)))) ∷ [])) 1 ≡ Some (faulted (division Overflow))
unfolding runs
rem_overflow_l = refl

-- the least of a class by -1
rem_overflow_w : status_after (straight ((inst (insts.Assign (w (codes "x")) (exprs.Binary binary.Rem (n 2147483648) (n 18446744073709551615)))) ∷ [])) 1 ≡ Some (faulted (division Overflow))
unfolding runs
rem_overflow_w = refl

-- dead addresses: of a load, of one byte at the highest address, of a store, of both sides of a copy
dead_load : status_after (straight ((inst (insts.Assign (w (codes "x")) (exprs.Load loads.Sw (n 0)))) ∷ [])) 1 ≡ Some (faulted (dead_address 0))
unfolding runs
dead_load = refl

dead_load_high : status_after (straight ((inst (insts.Assign (w (codes "x")) (exprs.Load loads.Ub (n 18446744073709551615)))) ∷ [])) 1 ≡ Some (faulted (dead_address 18446744073709551615))
unfolding runs
dead_load_high = refl

dead_store : status_after (straight ((inst (insts.Store widths.L (n 7) (n 16777212))) ∷ [])) 1 ≡ Some (faulted (dead_address 16777212))
unfolding runs
dead_store = refl

dead_source : status_after (straight ((inst (insts.Alloc (l (codes "p")) allocs.Four (n 8))) ∷ (inst (insts.Blit (n 16777217) (n 0) 8)) ∷ [])) 2 ≡ Some (faulted (dead_address 16777217))
unfolding runs
dead_source = refl

dead_target : status_after (straight ((inst (insts.Alloc (l (codes "p")) allocs.Four (n 8))) ∷ (inst (insts.Blit (% (codes "p")) (n 16777220) 8)) ∷ [])) 2 ≡ Some (faulted (dead_address 16777220))
unfolding runs
dead_target = refl

-- two parts of eight bytes that share one
overlap : status_after (straight ((inst (insts.Alloc (l (codes "p")) allocs.Four (n 8))) ∷ (inst (insts.Blit (n 16777216) (n 16777219) 4)) ∷ [])) 2 ≡ Some (faulted overlapping_blit)
unfolding runs
overlap = refl

-- and two that share none
next_to : status_after (straight ((inst (insts.Alloc (l (codes "p")) allocs.Four (n 8))) ∷ (inst (insts.Blit (n 16777216) (n 16777220) 4)) ∷ [])) 2 ≡ Some (running)
unfolding runs
next_to = refl

-- the same with the target below the source: one byte shared, none, and a byte between
overlap_below : status_after (straight ((inst (insts.Alloc (l (codes "p")) allocs.Four (n 12))) ∷ (inst (insts.Blit (n 16777219) (n 16777216) 4)) ∷ [])) 2 ≡ Some (faulted overlapping_blit)
unfolding runs
overlap_below = refl

beside_below : status_after (straight ((inst (insts.Alloc (l (codes "p")) allocs.Four (n 12))) ∷ (inst (insts.Blit (n 16777220) (n 16777216) 4)) ∷ [])) 2 ≡ Some (running)
unfolding runs
beside_below = refl

apart_below : status_after (straight ((inst (insts.Alloc (l (codes "p")) allocs.Four (n 12))) ∷ (inst (insts.Blit (n 16777221) (n 16777216) 4)) ∷ [])) 2 ≡ Some (running)
unfolding runs
apart_below = refl

-- and a byte between, with the target above
apart_above : status_after (straight ((inst (insts.Alloc (l (codes "p")) allocs.Four (n 12))) ∷ (inst (insts.Blit (n 16777216) (n 16777221) 4)) ∷ [])) 2 ≡ Some (running)
unfolding runs
apart_above = refl

-- all bytes shared but one, on both sides
nearly_the_same_below : status_after (straight ((inst (insts.Alloc (l (codes "p")) allocs.Four (n 12))) ∷ (inst (insts.Blit (n 16777217) (n 16777216) 4)) ∷ [])) 2 ≡ Some (faulted overlapping_blit)
unfolding runs
nearly_the_same_below = refl

nearly_the_same_above : status_after (straight ((inst (insts.Alloc (l (codes "p")) allocs.Four (n 12))) ∷ (inst (insts.Blit (n 16777216) (n 16777217) 4)) ∷ [])) 2 ≡ Some (faulted overlapping_blit)
unfolding runs
nearly_the_same_above = refl

-- of two operands that are unset the left one is reported, also where the right one would be a dead address
unset_left : status_after (straight ((inst (insts.Store widths.W (% (codes "u")) (% (codes "v")))) ∷ [])) 1 ≡ Some (faulted (unset_temporary (codes "u")))
unfolding runs
unset_left = refl

unset_right : status_after (straight ((inst (insts.Blit (n 0) (% (codes "v")) 0)) ∷ [])) 1 ≡ Some (faulted (unset_temporary (codes "v")))
unfolding runs
unset_right = refl

-- of a call the callee comes before its arguments
unset_callee : status_after (straight ((call None (% (codes "u")) (arg types.W (% (codes "v")) ∷ [])) ∷ [])) 1 ≡ Some (faulted (unset_temporary (codes "u")))
unfolding runs
unset_callee = refl

-- and its arguments before the search for a function
unset_argument : status_after (straight ((call None (n 5) (arg types.W (% (codes "v")) ∷ [])) ∷ [])) 1 ≡ Some (faulted (unset_temporary (codes "v")))
unfolding runs
unset_argument = refl

-- a jump reads its operand, also where both ways lead to one block
unset_jump : status_after (prog [] ((func None (codes "main") [] ((block (codes "start") [] [] (jumps.Jnz (% (codes "u")) (codes "b") (codes "b"))) ∷ (block (codes "b") [] [] (jumps.Ret None)) ∷ [])) ∷ [])) 1 ≡ Some (faulted (unset_temporary (codes "u")))
unfolding runs
unset_jump = refl

-- one byte more than the stack has
stack_over : status_after (straight ((inst (insts.Alloc (l (codes "p")) allocs.Sixteen (n 1048577))) ∷ [])) 1 ≡ Some (faulted stack_full)
unfolding runs
stack_over = refl

stack_negative : status_after (straight ((inst (insts.Alloc (l (codes "p")) allocs.Eight (n 18446744073709551615))) ∷ [])) 1 ≡ Some (faulted stack_full)
unfolding runs
stack_negative = refl

-- a long result of a word; a result of a function that gives none; more and fewer arguments than parameters; a long argument for a word
shape_result : status_after (prog [] ((func None (codes "main") [] ((block (codes "start") [] ((call (result (codes "r") types.L) ($ (codes "g")) []) ∷ []) (jumps.Ret None)) ∷ [])) ∷ (func (Some types.W) (codes "g") ([]) ((block (codes "s") [] [] (jumps.Ret None)) ∷ [])) ∷ [])) 1 ≡ Some (faulted call_shape)
unfolding runs
shape_result = refl

shape_no_result : status_after (prog [] ((func None (codes "main") [] ((block (codes "start") [] ((call (result (codes "r") types.W) ($ (codes "g")) []) ∷ []) (jumps.Ret None)) ∷ [])) ∷ (func None (codes "g") ([]) ((block (codes "s") [] [] (jumps.Ret None)) ∷ [])) ∷ [])) 1 ≡ Some (faulted call_shape)
unfolding runs
shape_no_result = refl

shape_more : status_after (prog [] ((func None (codes "main") [] ((block (codes "start") [] ((call None ($ (codes "g")) (arg types.W (n 1) ∷ arg types.W (n 2) ∷ [])) ∷ []) (jumps.Ret None)) ∷ [])) ∷ (func None (codes "g") (param types.W (codes "a") ∷ []) ((block (codes "s") [] [] (jumps.Ret None)) ∷ [])) ∷ [])) 1 ≡ Some (faulted call_shape)
unfolding runs
shape_more = refl

shape_fewer : status_after (prog [] ((func None (codes "main") [] ((block (codes "start") [] ((call None ($ (codes "g")) []) ∷ []) (jumps.Ret None)) ∷ [])) ∷ (func None (codes "g") (param types.W (codes "a") ∷ []) ((block (codes "s") [] [] (jumps.Ret None)) ∷ [])) ∷ [])) 1 ≡ Some (faulted call_shape)
unfolding runs
shape_fewer = refl

shape_long : status_after (prog [] ((func None (codes "main") [] ((block (codes "start") [] ((call None ($ (codes "g")) (arg types.L (n 1) ∷ [])) ∷ []) (jumps.Ret None)) ∷ [])) ∷ (func None (codes "g") (param types.W (codes "a") ∷ []) ((block (codes "s") [] [] (jumps.Ret None)) ∷ [])) ∷ [])) 1 ≡ Some (faulted call_shape)
unfolding runs
shape_long = refl

-- a result that is dropped is no fault
shape_dropped : status_after (prog [] ((func None (codes "main") [] ((block (codes "start") [] ((call None ($ (codes "g")) []) ∷ []) (jumps.Ret None)) ∷ [])) ∷ (func (Some types.W) (codes "g") ([]) ((block (codes "s") [] [] (jumps.Ret None)) ∷ [])) ∷ [])) 1 ≡ Some (running)
unfolding runs
shape_dropped = refl

-- functions that every program has, called otherwise than they are
shape_putchar : status_after (straight ((call None ($ (codes "putchar")) (arg types.L (n 65) ∷ [])) ∷ [])) 1 ≡ Some (faulted call_shape)
unfolding runs
shape_putchar = refl

shape_puts : status_after (straight ((call None ($ (codes "puts")) (arg types.W (n 65) ∷ [])) ∷ [])) 1 ≡ Some (faulted call_shape)
unfolding runs
shape_puts = refl

shape_exit : status_after (straight ((call None ($ (codes "exit")) []) ∷ [])) 1 ≡ Some (faulted call_shape)
unfolding runs
shape_exit = refl

-- where the program defines `$puts`, no function lies at the address of the one that every program has
own_puts_address : status_after (prog [] ((func None (codes "main") [] ((block (codes "start") [] ((call None (n 1040) []) ∷ []) (jumps.Ret None)) ∷ [])) ∷ (func None (codes "puts") [] ((block (codes "s") [] [] (jumps.Ret None)) ∷ [])) ∷ [])) 1 ≡ Some (faulted (no_function 1040))
unfolding runs
own_puts_address = refl

-- and its own is called
own_puts : status_after (prog [] ((func None (codes "main") [] ((block (codes "start") [] ((call None ($ (codes "puts")) []) ∷ []) (jumps.Ret None)) ∷ [])) ∷ (func None (codes "puts") [] ((block (codes "s") [] [] (jumps.Ret None)) ∷ [])) ∷ [])) 1 ≡ Some (running)
unfolding runs
own_puts = refl

-- no function lies between two
between_functions : status_after (straight ((call None (n 4104) []) ∷ [])) 1 ≡ Some (faulted (no_function 4104))
unfolding runs
between_functions = refl

-- the word of `$exit`
exits : status_after (straight ((call None ($ (codes "exit")) (arg types.W (n 4294967303) ∷ [])) ∷ [])) 1 ≡ Some (exited 7)
unfolding runs
exits = refl

-- a text that begins at a dead byte
puts_dead : status_after (straight ((call None ($ (codes "puts")) (arg types.L (n 3) ∷ [])) ∷ [])) 1 ≡ Some (faulted (dead_address 3))
unfolding runs
puts_dead = refl

-- ---- jumps

-- a value whose low 32 bits are zero takes the second way
abbrev chooses : ℕ → Program A0
chooses v = prog [] ((func (Some types.W) (codes "main") [] ((block (codes "start") [] [] (jumps.Jnz (n v) (codes "a") (codes "b"))) ∷ (block (codes "a") [] [] (jumps.Ret (Some (n 1)))) ∷ (block (codes "b") [] [] (jumps.Ret (Some (n 2)))) ∷ [])) ∷ [])

takes-first : status_after (chooses 4294967297) 2 ≡ Some (done (Some 1))
unfolding runs
takes-first = refl

takes-second : status_after (chooses 4294967296) 2 ≡ Some (done (Some 2))
unfolding runs
takes-second = refl

-- a returned value is one of the return type
returns_narrow : status_after (prog [] ((func (Some types.Sb) (codes "main") [] ((block (codes "s") [] [] (jumps.Ret (Some (n 200)))) ∷ [])) ∷ [])) 1 ≡ Some (done (Some 4294967240))
unfolding runs
returns_narrow = refl
