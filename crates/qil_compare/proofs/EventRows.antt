-- Events of small programs, computed. What is expected was worked out by another implementation of the comparison.
use Rattle.std.proofs.Common.{◌≡◌, refl, ℕ, true, false, List, [], ◌∷◌, Option, Some, None}
use Rattle.std.specs.Prelude.{codes}
use Rattle.qil_tree.specs.declared.ops.AbiType.TheVariants as types
use Rattle.qil_tree.specs.declared.ops.Width.TheVariants as widths
use Rattle.qil_tree.specs.declared.ops.UnaryOp.TheVariants as unary
use Rattle.qil_tree.specs.declared.ops.BinaryOp.TheVariants as binary
use Rattle.qil_tree.specs.declared.ops.LoadOp.TheVariants as loads
use Rattle.qil_tree.specs.declared.ops.AllocOp.TheVariants as allocs
use Rattle.qil_tree.specs.declared.tree.Expr.TheVariants as exprs
use Rattle.qil_tree.specs.declared.tree.InstKind.TheVariants as insts
use Rattle.qil_tree.specs.declared.tree.JumpKind.TheVariants as jumps
use Rattle.qil_tree.specs.declared.tree.Item.TheVariants as items
use Rattle.qil_tree.specs.declared.tree.Field.TheVariants as fields
use Rattle.qil_tree.specs.declared.tree.Inst.{Inst}
use Rattle.qil_tree.specs.declared.tree.Program.{Program}
use Rattle.qil_semantics.specs.State.{halted}
use Rattle.qil_semantics.specs.Start.{start_of}
use Rattle.qil_semantics.proofs.Programs.{A0, n, %, $, w, l, inst, arg, call, result, block, param, func, data_, prog, of_start, runs}
use Rattle.qil_compare.specs.declared.event.Kinds.{Kinds}
use Rattle.qil_compare.specs.Seen.{number, stack, in_data, function, data_place}
use Rattle.qil_compare.specs.Events.{Event, byte_out, written, called, returned, ended, done_with, exited_with, faulted_by, plain, unset, dead, bytes_from, events_of, events_by}

abbrev all : Kinds
all = record { output = true; writes = true; calls = true; end = true }

-- the events of the first steps of a program, next to another one
abbrev told : Program A0 → Program A0 → Kinds → ℕ → Option (List Event)
told p other kinds k = of_start (λ s. events_by p other kinds s k) (start_of p (codes "main") [])

-- what is opened where events are computed
unfoldable events : ℕ
unfolding runs events_by events_of bytes_from data_place
events = 0

-- ---- output, calls, returns and the end

abbrev prints : Inst A0
prints = call (result (codes "a") types.W) ($ (codes "putchar")) (arg types.W (n 65) ∷ [])

abbrev calls : Program A0
calls = prog [] (func (Some types.W) (codes "main") [] (block (codes "s") [] (prints ∷ call (result (codes "b") types.W) ($ (codes "f")) (arg types.W (n 7) ∷ []) ∷ []) (jumps.Ret (Some (% (codes "b")))) ∷ [])
    ∷ func (Some types.W) (codes "f") (param types.W (codes "x") ∷ []) (block (codes "s") [] [] (jumps.Ret (Some (% (codes "x")))) ∷ []) ∷ [])

-- the same, with the function inlined
abbrev inlined : Program A0
inlined = prog [] (func (Some types.W) (codes "main") [] (block (codes "s") [] (prints ∷ []) (jumps.Ret (Some (n 7))) ∷ []) ∷ [])

calls-3 : told calls calls all 3 ≡ Some (byte_out 65 ∷ called (codes "f") (number 7 ∷ []) ∷ returned (codes "f") (Some (number 7)) ∷ [])
unfolding events
calls-3 = refl

calls-4 : told calls calls all 4 ≡ Some (byte_out 65 ∷ called (codes "f") (number 7 ∷ []) ∷ returned (codes "f") (Some (number 7)) ∷ ended (Some (done_with (Some (number 7)))) ∷ [])
unfolding events
calls-4 = refl

-- after the end there are none
calls-5 : told calls calls (record all { calls = false }) 5 ≡ Some (byte_out 65 ∷ ended (Some (done_with (Some (number 7)))) ∷ [])
unfolding events
calls-5 = refl

-- what the other program doesn't define is no event
calls-inlined : told calls inlined all 4 ≡ Some (byte_out 65 ∷ ended (Some (done_with (Some (number 7)))) ∷ [])
unfolding events
calls-inlined = refl

inlined-calls : told inlined calls all 2 ≡ told calls inlined all 4
unfolding events
inlined-calls = refl

output_alone : told calls calls (record { output = true; writes = false; calls = false; end = false }) 4 ≡ Some (byte_out 65 ∷ [])
unfolding events
output_alone = refl

-- ---- writes

abbrev byte_of_data : Program A0
byte_of_data = prog (data_ (codes "d") None (fields.Values widths.W (items.Number 0 ∷ []) ∷ []) ∷ []) (func None (codes "main") [] (block (codes "s") [] [] (jumps.Ret None) ∷ []) ∷ [])

abbrev writes : Program A0
writes = prog (data_ (codes "c") None (fields.Values widths.B (items.Number 1 ∷ []) ∷ []) ∷ data_ (codes "d") None (fields.Values widths.W (items.Number 0 ∷ []) ∷ []) ∷ [])
    (func None (codes "main") []
    (block (codes "s") [] (inst (insts.Store widths.H (n 258) ($ (codes "d"))) ∷ inst (insts.Alloc (l (codes "p")) allocs.Four (n 4)) ∷ inst (insts.Store widths.W (n 1) (% (codes "p"))) ∷ inst (insts.Blit ($ (codes "d")) ($ (codes "c")) 1) ∷ []) jumps.Hlt ∷ []) ∷ [])

-- a write to the stack is none
writes-5 : told writes writes all 5 ≡ Some (written (record { object = codes "d"; bytes = 0 }) (Some 2 ∷ Some 1 ∷ []) ∷ written (record { object = codes "c"; bytes = 0 }) (Some 2 ∷ []) ∷ ended (Some (faulted_by (plain halted))) ∷ [])
unfolding events
writes-5 = refl

-- nor is one to an object that the other program lacks
writes-of_one : told writes byte_of_data all 4 ≡ Some (written (record { object = codes "d"; bytes = 0 }) (Some 2 ∷ Some 1 ∷ []) ∷ [])
unfolding events
writes-of_one = refl

writes-unasked : told writes writes (record all { writes = false }) 5 ≡ Some (ended (Some (faulted_by (plain halted))) ∷ [])
unfolding events
writes-unasked = refl

-- ---- what values are

abbrev six : List (Inst A0)
six = inst (insts.Alloc (l (codes "p")) allocs.Eight (n 8))
    ∷ call None ($ (codes "f")) (arg types.L ($ (codes "d")) ∷ arg types.L (% (codes "p")) ∷ arg types.L ($ (codes "f")) ∷ arg types.L ($ (codes "puts")) ∷ arg types.L (n 5) ∷ arg types.W (n 65536) ∷ [])
    ∷ call None ($ (codes "exit")) (arg types.W (n 3) ∷ []) ∷ []

abbrev values : Program A0
values = prog (data_ (codes "c") None (fields.Values widths.B (items.Number 1 ∷ []) ∷ []) ∷ data_ (codes "d") None (fields.Values widths.W (items.Number 0 ∷ []) ∷ []) ∷ [])
    (func None (codes "main") [] (block (codes "s") [] six (jumps.Ret None) ∷ [])
    ∷ func (Some types.L) (codes "f") (param types.L (codes "a") ∷ param types.L (codes "b") ∷ param types.L (codes "c") ∷ param types.L (codes "d") ∷ param types.L (codes "e") ∷ param types.W (codes "g") ∷ [])
    (block (codes "s") [] (inst (insts.Assign (l (codes "i")) (exprs.Binary binary.Add (% (codes "a")) (n 2))) ∷ []) (jumps.Ret (Some (% (codes "i")))) ∷ []) ∷ [])

values-2 : told values values all 2
    ≡ Some (called (codes "f") (in_data (record { object = codes "d"; bytes = 0 }) ∷ stack ∷ function (codes "f") ∷ function (codes "puts") ∷ number 5 ∷ number 65536 ∷ []) ∷ [])
unfolding events
values-2 = refl

values-5 : told values values (record all { calls = false }) 5 ≡ Some (ended (Some (exited_with 3)) ∷ [])
unfolding events
values-5 = refl

values-back : told values values all 4
    ≡ Some (called (codes "f") (in_data (record { object = codes "d"; bytes = 0 }) ∷ stack ∷ function (codes "f") ∷ function (codes "puts") ∷ number 5 ∷ number 65536 ∷ [])
    ∷ returned (codes "f") (Some (in_data (record { object = codes "d"; bytes = 2 }))) ∷ [])
unfolding events
values-back = refl

-- ---- faults

abbrev dies : Program A0
dies = prog [] (func None (codes "main") [] (block (codes "s") [] (inst (insts.Assign (w (codes "x")) (exprs.Load loads.Uw (n 65537))) ∷ []) (jumps.Ret None) ∷ []) ∷ [])

dies-1 : told dies dies all 1 ≡ Some (ended (Some (faulted_by (dead (number 65537)))) ∷ [])
unfolding events
dies-1 = refl

-- an unset temporary is told without its name
abbrev lacks : Program A0
lacks = prog [] (func (Some types.W) (codes "main") [] (block (codes "s") [] [] (jumps.Jnz (n 1) (codes "t") (codes "u")) ∷ block (codes "u") [] (inst (insts.Assign (w (codes "x")) (exprs.Unary unary.Copy (n 1))) ∷ []) (jumps.Jmp (codes "t"))
    ∷ block (codes "t") [] [] (jumps.Ret (Some (% (codes "x")))) ∷ []) ∷ [])

lacks-2 : told lacks lacks all 2 ≡ Some (ended (Some (faulted_by unset)) ∷ [])
unfolding events
lacks-2 = refl
