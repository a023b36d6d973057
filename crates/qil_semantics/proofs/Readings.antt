-- What watches read along runs. What is expected was worked out by another implementation of the meaning.
use Rattle.std.proofs.Common.{◌≡◌, refl, [], ◌∷◌, Some, None}
use Rattle.std.specs.Prelude.{codes}
use Rattle.qil_tree.specs.declared.ops.AbiType.TheVariants as types
use Rattle.qil_tree.specs.declared.ops.Width.TheVariants as widths
use Rattle.qil_tree.specs.declared.ops.BinaryOp.TheVariants as binary
use Rattle.qil_tree.specs.declared.ops.AllocOp.TheVariants as allocs
use Rattle.qil_tree.specs.declared.tree.Expr.TheVariants as exprs
use Rattle.qil_tree.specs.declared.tree.InstKind.TheVariants as insts
use Rattle.qil_tree.specs.declared.tree.JumpKind.TheVariants as jumps
use Rattle.qil_tree.specs.declared.tree.Item.TheVariants as items
use Rattle.qil_tree.specs.declared.tree.Field.TheVariants as fields
use Rattle.qil_tree.specs.declared.tree.Program.{Program}
use Rattle.qil_semantics.proofs.Programs.{A0, n, %, $, l, inst, arg, call, block, param, func, data_, prog, readings, runs}
use Rattle.qil_semantics.specs.Stops.{memory_at, temp_in, dead, unset, bytes_read, value_read, reading}

abbrev pub watched_word : Program A0
watched_word = prog ((data_ (codes "d") None ((fields.Values widths.W ((items.Number 0) ∷ [])) ∷ [])) ∷ []) ((func None (codes "main") [] ((block (codes "start") [] ((inst (insts.Store widths.W (n 1) ($ (codes "d")))) ∷ (inst (insts.Store widths.W (n 1) ($ (codes "d")))) ∷ (inst (insts.Store widths.W (n 2) ($ (codes "d")))) ∷ []) (jumps.Ret None)) ∷ [])) ∷ [])

watched_word-bytes : readings watched_word (memory_at 65536 4) (0 ∷ 1 ∷ 2 ∷ 3 ∷ 4 ∷ []) ≡ Some (bytes_read (0 ∷ 0 ∷ 0 ∷ 0 ∷ []) ∷ bytes_read (1 ∷ 0 ∷ 0 ∷ 0 ∷ []) ∷ bytes_read (1 ∷ 0 ∷ 0 ∷ 0 ∷ []) ∷ bytes_read (2 ∷ 0 ∷ 0 ∷ 0 ∷ []) ∷ bytes_read (2 ∷ 0 ∷ 0 ∷ 0 ∷ []) ∷ [])
unfolding runs reading
watched_word-bytes = refl

abbrev pub two_calls : Program A0
two_calls = prog [] ((func None (codes "f") [] ((block (codes "s") [] ((inst (insts.Alloc (l (codes "p")) allocs.Eight (n 8))) ∷ (inst (insts.Store widths.L (n 7) (% (codes "p")))) ∷ []) (jumps.Ret None)) ∷ [])) ∷ (func None (codes "g") [] ((block (codes "s") [] ((inst (insts.Alloc (l (codes "p")) allocs.Eight (n 8))) ∷ []) (jumps.Ret None)) ∷ [])) ∷ (func None (codes "main") [] ((block (codes "start") [] ((call None ($ (codes "f")) []) ∷ (call None ($ (codes "g")) []) ∷ []) (jumps.Ret None)) ∷ [])) ∷ [])

two_calls-bytes : readings two_calls (memory_at 16777216 1) (0 ∷ 1 ∷ 2 ∷ 3 ∷ 4 ∷ 5 ∷ 6 ∷ 7 ∷ 8 ∷ []) ≡ Some (dead ∷ dead ∷ bytes_read (0 ∷ []) ∷ bytes_read (7 ∷ []) ∷ dead ∷ dead ∷ bytes_read (0 ∷ []) ∷ dead ∷ dead ∷ [])
unfolding runs reading
two_calls-bytes = refl

abbrev pub recurse : Program A0
recurse = prog [] ((func None (codes "f") (param types.L (codes "n") ∷ []) ((block (codes "s") [] ((inst (insts.Assign (l (codes "m")) (exprs.Binary binary.Sub (% (codes "n")) (n 1)))) ∷ []) (jumps.Jnz (% (codes "n")) (codes "t") (codes "u"))) ∷ (block (codes "t") [] ((call None ($ (codes "f")) (arg types.L (% (codes "m")) ∷ [])) ∷ []) (jumps.Ret None)) ∷ (block (codes "u") [] [] (jumps.Ret None)) ∷ [])) ∷ (func None (codes "main") [] ((block (codes "start") [] ((call None ($ (codes "f")) (arg types.L (n 2) ∷ [])) ∷ []) (jumps.Ret None)) ∷ [])) ∷ [])

recurse-temp : readings recurse (temp_in (codes "f") (codes "m")) (0 ∷ 1 ∷ 2 ∷ 3 ∷ 4 ∷ 5 ∷ 6 ∷ 7 ∷ 8 ∷ 9 ∷ 10 ∷ 11 ∷ 12 ∷ 13 ∷ []) ≡ Some (unset ∷ unset ∷ value_read 1 ∷ value_read 1 ∷ unset ∷ value_read 0 ∷ value_read 0 ∷ unset ∷ value_read 18446744073709551615 ∷ value_read 18446744073709551615 ∷ value_read 0 ∷ value_read 1 ∷ unset ∷ unset ∷ [])
unfolding runs reading
recurse-temp = refl

-- two and eight bytes of the data, and eight of which one is dead
watched_word-widths : (readings watched_word (memory_at 65538 2) (3 ∷ []) ≡ Some (bytes_read (0 ∷ 0 ∷ []) ∷ [])) × (readings watched_word (memory_at 65535 1) (3 ∷ []) ≡ Some (dead ∷ [])) × (readings watched_word (memory_at 65536 8) (0 ∷ 3 ∷ []) ≡ Some (dead ∷ dead ∷ []))
unfolding runs reading
watched_word-widths = (refl, refl, refl)

two_calls-long : readings two_calls (memory_at 16777216 8) (1 ∷ 2 ∷ 3 ∷ 4 ∷ []) ≡ Some (dead ∷ bytes_read (0 ∷ 0 ∷ 0 ∷ 0 ∷ 0 ∷ 0 ∷ 0 ∷ 0 ∷ []) ∷ bytes_read (7 ∷ 0 ∷ 0 ∷ 0 ∷ 0 ∷ 0 ∷ 0 ∷ 0 ∷ []) ∷ dead ∷ [])
unfolding runs reading
two_calls-long = refl

-- a temporary of a function that has no frame
two_calls-elsewhere : readings two_calls (temp_in (codes "g") (codes "p")) (0 ∷ 3 ∷ 5 ∷ 6 ∷ 7 ∷ []) ≡ Some (unset ∷ unset ∷ unset ∷ value_read 16777216 ∷ unset ∷ [])
unfolding runs reading
two_calls-elsewhere = refl
