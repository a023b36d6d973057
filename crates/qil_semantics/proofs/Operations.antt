-- What each operation gives, computed. The values were worked out by another program, from the table of instructions.
use Rattle.std.proofs.Common.{◌≡◌, refl, [], ◌∷◌, Some}
use Rattle.std.specs.Prelude.{codes}
use Rattle.qil_tree.specs.declared.ops.Class.TheVariants as classes
use Rattle.qil_tree.specs.declared.ops.UnaryOp.TheVariants as unary
use Rattle.qil_tree.specs.declared.ops.BinaryOp.TheVariants as binary
use Rattle.qil_tree.specs.declared.ops.CompareOp.TheVariants as compares
use Rattle.qil_tree.specs.declared.ops.Extension.TheVariants as extensions
use Rattle.qil_tree.specs.declared.tree.Expr.TheVariants as exprs
use Rattle.qil_tree.specs.declared.tree.InstKind.TheVariants as insts
use Rattle.qil_tree.specs.declared.tree.Program.{Program}
use Rattle.qil_semantics.proofs.Programs.{A0, n, w, l, inst, straight, temps_after, runs}

-- `add`
abbrev adds : Program A0
adds = straight (inst (insts.Assign (w (codes "t0")) (exprs.Binary binary.Add (n 7) (n 18446744073709551614))) ∷ inst (insts.Assign (w (codes "t1")) (exprs.Binary binary.Add (n 18446744073709551609) (n 2))) ∷ inst (insts.Assign (w (codes "t2")) (exprs.Binary binary.Add (n 0) (n 1))) ∷ inst (insts.Assign (w (codes "t3")) (exprs.Binary binary.Add (n 8589934597) (n 3))) ∷ inst (insts.Assign (w (codes "t4")) (exprs.Binary binary.Add (n 18446744073709551615) (n 1))) ∷ inst (insts.Assign (w (codes "t5")) (exprs.Binary binary.Add (n 2147483648) (n 2))) ∷ inst (insts.Assign (l (codes "t6")) (exprs.Binary binary.Add (n 7) (n 18446744073709551614))) ∷ inst (insts.Assign (l (codes "t7")) (exprs.Binary binary.Add (n 18446744073709551609) (n 2))) ∷ inst (insts.Assign (l (codes "t8")) (exprs.Binary binary.Add (n 0) (n 1))) ∷ inst (insts.Assign (l (codes "t9")) (exprs.Binary binary.Add (n 8589934597) (n 3))) ∷ inst (insts.Assign (l (codes "t10")) (exprs.Binary binary.Add (n 18446744073709551615) (n 1))) ∷ inst (insts.Assign (l (codes "t11")) (exprs.Binary binary.Add (n 9223372036854775808) (n 2))) ∷ [])

adds-values : temps_after adds 12 (codes "t0" ∷ codes "t1" ∷ codes "t2" ∷ codes "t3" ∷ codes "t4" ∷ codes "t5" ∷ codes "t6" ∷ codes "t7" ∷ codes "t8" ∷ codes "t9" ∷ codes "t10" ∷ codes "t11" ∷ []) ≡ Some (Some 5 ∷ Some 4294967291 ∷ Some 1 ∷ Some 8 ∷ Some 0 ∷ Some 2147483650 ∷ Some 5 ∷ Some 18446744073709551611 ∷ Some 1 ∷ Some 8589934600 ∷ Some 0 ∷ Some 9223372036854775810 ∷ [])
unfolding runs
adds-values = refl

-- `sub`
abbrev subs : Program A0
subs = straight (inst (insts.Assign (w (codes "t0")) (exprs.Binary binary.Sub (n 7) (n 18446744073709551614))) ∷ inst (insts.Assign (w (codes "t1")) (exprs.Binary binary.Sub (n 18446744073709551609) (n 2))) ∷ inst (insts.Assign (w (codes "t2")) (exprs.Binary binary.Sub (n 0) (n 1))) ∷ inst (insts.Assign (w (codes "t3")) (exprs.Binary binary.Sub (n 8589934597) (n 3))) ∷ inst (insts.Assign (w (codes "t4")) (exprs.Binary binary.Sub (n 18446744073709551615) (n 1))) ∷ inst (insts.Assign (w (codes "t5")) (exprs.Binary binary.Sub (n 2147483648) (n 2))) ∷ inst (insts.Assign (l (codes "t6")) (exprs.Binary binary.Sub (n 7) (n 18446744073709551614))) ∷ inst (insts.Assign (l (codes "t7")) (exprs.Binary binary.Sub (n 18446744073709551609) (n 2))) ∷ inst (insts.Assign (l (codes "t8")) (exprs.Binary binary.Sub (n 0) (n 1))) ∷ inst (insts.Assign (l (codes "t9")) (exprs.Binary binary.Sub (n 8589934597) (n 3))) ∷ inst (insts.Assign (l (codes "t10")) (exprs.Binary binary.Sub (n 18446744073709551615) (n 1))) ∷ inst (insts.Assign (l (codes "t11")) (exprs.Binary binary.Sub (n 9223372036854775808) (n 2))) ∷ [])

subs-values : temps_after subs 12 (codes "t0" ∷ codes "t1" ∷ codes "t2" ∷ codes "t3" ∷ codes "t4" ∷ codes "t5" ∷ codes "t6" ∷ codes "t7" ∷ codes "t8" ∷ codes "t9" ∷ codes "t10" ∷ codes "t11" ∷ []) ≡ Some (Some 9 ∷ Some 4294967287 ∷ Some 4294967295 ∷ Some 2 ∷ Some 4294967294 ∷ Some 2147483646 ∷ Some 9 ∷ Some 18446744073709551607 ∷ Some 18446744073709551615 ∷ Some 8589934594 ∷ Some 18446744073709551614 ∷ Some 9223372036854775806 ∷ [])
unfolding runs
subs-values = refl

-- `mul`
abbrev muls : Program A0
muls = straight (inst (insts.Assign (w (codes "t0")) (exprs.Binary binary.Mul (n 7) (n 18446744073709551614))) ∷ inst (insts.Assign (w (codes "t1")) (exprs.Binary binary.Mul (n 18446744073709551609) (n 2))) ∷ inst (insts.Assign (w (codes "t2")) (exprs.Binary binary.Mul (n 0) (n 1))) ∷ inst (insts.Assign (w (codes "t3")) (exprs.Binary binary.Mul (n 8589934597) (n 3))) ∷ inst (insts.Assign (w (codes "t4")) (exprs.Binary binary.Mul (n 18446744073709551615) (n 1))) ∷ inst (insts.Assign (w (codes "t5")) (exprs.Binary binary.Mul (n 2147483648) (n 2))) ∷ inst (insts.Assign (l (codes "t6")) (exprs.Binary binary.Mul (n 7) (n 18446744073709551614))) ∷ inst (insts.Assign (l (codes "t7")) (exprs.Binary binary.Mul (n 18446744073709551609) (n 2))) ∷ inst (insts.Assign (l (codes "t8")) (exprs.Binary binary.Mul (n 0) (n 1))) ∷ inst (insts.Assign (l (codes "t9")) (exprs.Binary binary.Mul (n 8589934597) (n 3))) ∷ inst (insts.Assign (l (codes "t10")) (exprs.Binary binary.Mul (n 18446744073709551615) (n 1))) ∷ inst (insts.Assign (l (codes "t11")) (exprs.Binary binary.Mul (n 9223372036854775808) (n 2))) ∷ [])

muls-values : temps_after muls 12 (codes "t0" ∷ codes "t1" ∷ codes "t2" ∷ codes "t3" ∷ codes "t4" ∷ codes "t5" ∷ codes "t6" ∷ codes "t7" ∷ codes "t8" ∷ codes "t9" ∷ codes "t10" ∷ codes "t11" ∷ []) ≡ Some (Some 4294967282 ∷ Some 4294967282 ∷ Some 0 ∷ Some 15 ∷ Some 4294967295 ∷ Some 0 ∷ Some 18446744073709551602 ∷ Some 18446744073709551602 ∷ Some 0 ∷ Some 25769803791 ∷ Some 18446744073709551615 ∷ Some 0 ∷ [])
unfolding runs
muls-values = refl

-- `div`
abbrev divs : Program A0
divs = straight (inst (insts.Assign (w (codes "t0")) (exprs.Binary binary.Div (n 7) (n 18446744073709551614))) ∷ inst (insts.Assign (w (codes "t1")) (exprs.Binary binary.Div (n 18446744073709551609) (n 2))) ∷ inst (insts.Assign (w (codes "t2")) (exprs.Binary binary.Div (n 0) (n 1))) ∷ inst (insts.Assign (w (codes "t3")) (exprs.Binary binary.Div (n 8589934597) (n 3))) ∷ inst (insts.Assign (w (codes "t4")) (exprs.Binary binary.Div (n 18446744073709551615) (n 1))) ∷ inst (insts.Assign (w (codes "t5")) (exprs.Binary binary.Div (n 2147483648) (n 2))) ∷ inst (insts.Assign (l (codes "t6")) (exprs.Binary binary.Div (n 7) (n 18446744073709551614))) ∷ inst (insts.Assign (l (codes "t7")) (exprs.Binary binary.Div (n 18446744073709551609) (n 2))) ∷ inst (insts.Assign (l (codes "t8")) (exprs.Binary binary.Div (n 0) (n 1))) ∷ inst (insts.Assign (l (codes "t9")) (exprs.Binary binary.Div (n 8589934597) (n 3))) ∷ inst (insts.Assign (l (codes "t10")) (exprs.Binary binary.Div (n 18446744073709551615) (n 1))) ∷ inst (insts.Assign (l (codes "t11")) (exprs.Binary binary.Div (n 9223372036854775808) (n 2))) ∷ [])

divs-values : temps_after divs 12 (codes "t0" ∷ codes "t1" ∷ codes "t2" ∷ codes "t3" ∷ codes "t4" ∷ codes "t5" ∷ codes "t6" ∷ codes "t7" ∷ codes "t8" ∷ codes "t9" ∷ codes "t10" ∷ codes "t11" ∷ []) ≡ Some (Some 4294967293 ∷ Some 4294967293 ∷ Some 0 ∷ Some 1 ∷ Some 4294967295 ∷ Some 3221225472 ∷ Some 18446744073709551613 ∷ Some 18446744073709551613 ∷ Some 0 ∷ Some 2863311532 ∷ Some 18446744073709551615 ∷ Some 13835058055282163712 ∷ [])
unfolding runs
divs-values = refl

-- `rem`
abbrev rems : Program A0
rems = straight (inst (insts.Assign (w (codes "t0")) (exprs.Binary binary.Rem (n 7) (n 18446744073709551614))) ∷ inst (insts.Assign (w (codes "t1")) (exprs.Binary binary.Rem (n 18446744073709551609) (n 2))) ∷ inst (insts.Assign (w (codes "t2")) (exprs.Binary binary.Rem (n 0) (n 1))) ∷ inst (insts.Assign (w (codes "t3")) (exprs.Binary binary.Rem (n 8589934597) (n 3))) ∷ inst (insts.Assign (w (codes "t4")) (exprs.Binary binary.Rem (n 18446744073709551615) (n 1))) ∷ inst (insts.Assign (w (codes "t5")) (exprs.Binary binary.Rem (n 2147483648) (n 2))) ∷ inst (insts.Assign (l (codes "t6")) (exprs.Binary binary.Rem (n 7) (n 18446744073709551614))) ∷ inst (insts.Assign (l (codes "t7")) (exprs.Binary binary.Rem (n 18446744073709551609) (n 2))) ∷ inst (insts.Assign (l (codes "t8")) (exprs.Binary binary.Rem (n 0) (n 1))) ∷ inst (insts.Assign (l (codes "t9")) (exprs.Binary binary.Rem (n 8589934597) (n 3))) ∷ inst (insts.Assign (l (codes "t10")) (exprs.Binary binary.Rem (n 18446744073709551615) (n 1))) ∷ inst (insts.Assign (l (codes "t11")) (exprs.Binary binary.Rem (n 9223372036854775808) (n 2))) ∷ [])

rems-values : temps_after rems 12 (codes "t0" ∷ codes "t1" ∷ codes "t2" ∷ codes "t3" ∷ codes "t4" ∷ codes "t5" ∷ codes "t6" ∷ codes "t7" ∷ codes "t8" ∷ codes "t9" ∷ codes "t10" ∷ codes "t11" ∷ []) ≡ Some (Some 1 ∷ Some 4294967295 ∷ Some 0 ∷ Some 2 ∷ Some 0 ∷ Some 0 ∷ Some 1 ∷ Some 18446744073709551615 ∷ Some 0 ∷ Some 1 ∷ Some 0 ∷ Some 0 ∷ [])
unfolding runs
rems-values = refl

-- `udiv`
abbrev udivs : Program A0
udivs = straight (inst (insts.Assign (w (codes "t0")) (exprs.Binary binary.Udiv (n 7) (n 18446744073709551614))) ∷ inst (insts.Assign (w (codes "t1")) (exprs.Binary binary.Udiv (n 18446744073709551609) (n 2))) ∷ inst (insts.Assign (w (codes "t2")) (exprs.Binary binary.Udiv (n 0) (n 1))) ∷ inst (insts.Assign (w (codes "t3")) (exprs.Binary binary.Udiv (n 8589934597) (n 3))) ∷ inst (insts.Assign (w (codes "t4")) (exprs.Binary binary.Udiv (n 18446744073709551615) (n 1))) ∷ inst (insts.Assign (w (codes "t5")) (exprs.Binary binary.Udiv (n 2147483648) (n 2))) ∷ inst (insts.Assign (l (codes "t6")) (exprs.Binary binary.Udiv (n 7) (n 18446744073709551614))) ∷ inst (insts.Assign (l (codes "t7")) (exprs.Binary binary.Udiv (n 18446744073709551609) (n 2))) ∷ inst (insts.Assign (l (codes "t8")) (exprs.Binary binary.Udiv (n 0) (n 1))) ∷ inst (insts.Assign (l (codes "t9")) (exprs.Binary binary.Udiv (n 8589934597) (n 3))) ∷ inst (insts.Assign (l (codes "t10")) (exprs.Binary binary.Udiv (n 18446744073709551615) (n 1))) ∷ inst (insts.Assign (l (codes "t11")) (exprs.Binary binary.Udiv (n 9223372036854775808) (n 2))) ∷ [])

udivs-values : temps_after udivs 12 (codes "t0" ∷ codes "t1" ∷ codes "t2" ∷ codes "t3" ∷ codes "t4" ∷ codes "t5" ∷ codes "t6" ∷ codes "t7" ∷ codes "t8" ∷ codes "t9" ∷ codes "t10" ∷ codes "t11" ∷ []) ≡ Some (Some 0 ∷ Some 2147483644 ∷ Some 0 ∷ Some 1 ∷ Some 4294967295 ∷ Some 1073741824 ∷ Some 0 ∷ Some 9223372036854775804 ∷ Some 0 ∷ Some 2863311532 ∷ Some 18446744073709551615 ∷ Some 4611686018427387904 ∷ [])
unfolding runs
udivs-values = refl

-- `urem`
abbrev urems : Program A0
urems = straight (inst (insts.Assign (w (codes "t0")) (exprs.Binary binary.Urem (n 7) (n 18446744073709551614))) ∷ inst (insts.Assign (w (codes "t1")) (exprs.Binary binary.Urem (n 18446744073709551609) (n 2))) ∷ inst (insts.Assign (w (codes "t2")) (exprs.Binary binary.Urem (n 0) (n 1))) ∷ inst (insts.Assign (w (codes "t3")) (exprs.Binary binary.Urem (n 8589934597) (n 3))) ∷ inst (insts.Assign (w (codes "t4")) (exprs.Binary binary.Urem (n 18446744073709551615) (n 1))) ∷ inst (insts.Assign (w (codes "t5")) (exprs.Binary binary.Urem (n 2147483648) (n 2))) ∷ inst (insts.Assign (l (codes "t6")) (exprs.Binary binary.Urem (n 7) (n 18446744073709551614))) ∷ inst (insts.Assign (l (codes "t7")) (exprs.Binary binary.Urem (n 18446744073709551609) (n 2))) ∷ inst (insts.Assign (l (codes "t8")) (exprs.Binary binary.Urem (n 0) (n 1))) ∷ inst (insts.Assign (l (codes "t9")) (exprs.Binary binary.Urem (n 8589934597) (n 3))) ∷ inst (insts.Assign (l (codes "t10")) (exprs.Binary binary.Urem (n 18446744073709551615) (n 1))) ∷ inst (insts.Assign (l (codes "t11")) (exprs.Binary binary.Urem (n 9223372036854775808) (n 2))) ∷ [])

urems-values : temps_after urems 12 (codes "t0" ∷ codes "t1" ∷ codes "t2" ∷ codes "t3" ∷ codes "t4" ∷ codes "t5" ∷ codes "t6" ∷ codes "t7" ∷ codes "t8" ∷ codes "t9" ∷ codes "t10" ∷ codes "t11" ∷ []) ≡ Some (Some 7 ∷ Some 1 ∷ Some 0 ∷ Some 2 ∷ Some 0 ∷ Some 0 ∷ Some 7 ∷ Some 1 ∷ Some 0 ∷ Some 1 ∷ Some 0 ∷ Some 0 ∷ [])
unfolding runs
urems-values = refl

-- `and`
abbrev ands : Program A0
ands = straight (inst (insts.Assign (w (codes "t0")) (exprs.Binary binary.And (n 7) (n 18446744073709551614))) ∷ inst (insts.Assign (w (codes "t1")) (exprs.Binary binary.And (n 18446744073709551609) (n 2))) ∷ inst (insts.Assign (w (codes "t2")) (exprs.Binary binary.And (n 0) (n 1))) ∷ inst (insts.Assign (w (codes "t3")) (exprs.Binary binary.And (n 8589934597) (n 3))) ∷ inst (insts.Assign (w (codes "t4")) (exprs.Binary binary.And (n 18446744073709551615) (n 1))) ∷ inst (insts.Assign (w (codes "t5")) (exprs.Binary binary.And (n 2147483648) (n 2))) ∷ inst (insts.Assign (l (codes "t6")) (exprs.Binary binary.And (n 7) (n 18446744073709551614))) ∷ inst (insts.Assign (l (codes "t7")) (exprs.Binary binary.And (n 18446744073709551609) (n 2))) ∷ inst (insts.Assign (l (codes "t8")) (exprs.Binary binary.And (n 0) (n 1))) ∷ inst (insts.Assign (l (codes "t9")) (exprs.Binary binary.And (n 8589934597) (n 3))) ∷ inst (insts.Assign (l (codes "t10")) (exprs.Binary binary.And (n 18446744073709551615) (n 1))) ∷ inst (insts.Assign (l (codes "t11")) (exprs.Binary binary.And (n 9223372036854775808) (n 2))) ∷ [])

ands-values : temps_after ands 12 (codes "t0" ∷ codes "t1" ∷ codes "t2" ∷ codes "t3" ∷ codes "t4" ∷ codes "t5" ∷ codes "t6" ∷ codes "t7" ∷ codes "t8" ∷ codes "t9" ∷ codes "t10" ∷ codes "t11" ∷ []) ≡ Some (Some 6 ∷ Some 0 ∷ Some 0 ∷ Some 1 ∷ Some 1 ∷ Some 0 ∷ Some 6 ∷ Some 0 ∷ Some 0 ∷ Some 1 ∷ Some 1 ∷ Some 0 ∷ [])
unfolding runs
ands-values = refl

-- `or`
abbrev ors : Program A0
ors = straight (inst (insts.Assign (w (codes "t0")) (exprs.Binary binary.Or (n 7) (n 18446744073709551614))) ∷ inst (insts.Assign (w (codes "t1")) (exprs.Binary binary.Or (n 18446744073709551609) (n 2))) ∷ inst (insts.Assign (w (codes "t2")) (exprs.Binary binary.Or (n 0) (n 1))) ∷ inst (insts.Assign (w (codes "t3")) (exprs.Binary binary.Or (n 8589934597) (n 3))) ∷ inst (insts.Assign (w (codes "t4")) (exprs.Binary binary.Or (n 18446744073709551615) (n 1))) ∷ inst (insts.Assign (w (codes "t5")) (exprs.Binary binary.Or (n 2147483648) (n 2))) ∷ inst (insts.Assign (l (codes "t6")) (exprs.Binary binary.Or (n 7) (n 18446744073709551614))) ∷ inst (insts.Assign (l (codes "t7")) (exprs.Binary binary.Or (n 18446744073709551609) (n 2))) ∷ inst (insts.Assign (l (codes "t8")) (exprs.Binary binary.Or (n 0) (n 1))) ∷ inst (insts.Assign (l (codes "t9")) (exprs.Binary binary.Or (n 8589934597) (n 3))) ∷ inst (insts.Assign (l (codes "t10")) (exprs.Binary binary.Or (n 18446744073709551615) (n 1))) ∷ inst (insts.Assign (l (codes "t11")) (exprs.Binary binary.Or (n 9223372036854775808) (n 2))) ∷ [])

ors-values : temps_after ors 12 (codes "t0" ∷ codes "t1" ∷ codes "t2" ∷ codes "t3" ∷ codes "t4" ∷ codes "t5" ∷ codes "t6" ∷ codes "t7" ∷ codes "t8" ∷ codes "t9" ∷ codes "t10" ∷ codes "t11" ∷ []) ≡ Some (Some 4294967295 ∷ Some 4294967291 ∷ Some 1 ∷ Some 7 ∷ Some 4294967295 ∷ Some 2147483650 ∷ Some 18446744073709551615 ∷ Some 18446744073709551611 ∷ Some 1 ∷ Some 8589934599 ∷ Some 18446744073709551615 ∷ Some 9223372036854775810 ∷ [])
unfolding runs
ors-values = refl

-- `xor`
abbrev xors : Program A0
xors = straight (inst (insts.Assign (w (codes "t0")) (exprs.Binary binary.Xor (n 7) (n 18446744073709551614))) ∷ inst (insts.Assign (w (codes "t1")) (exprs.Binary binary.Xor (n 18446744073709551609) (n 2))) ∷ inst (insts.Assign (w (codes "t2")) (exprs.Binary binary.Xor (n 0) (n 1))) ∷ inst (insts.Assign (w (codes "t3")) (exprs.Binary binary.Xor (n 8589934597) (n 3))) ∷ inst (insts.Assign (w (codes "t4")) (exprs.Binary binary.Xor (n 18446744073709551615) (n 1))) ∷ inst (insts.Assign (w (codes "t5")) (exprs.Binary binary.Xor (n 2147483648) (n 2))) ∷ inst (insts.Assign (l (codes "t6")) (exprs.Binary binary.Xor (n 7) (n 18446744073709551614))) ∷ inst (insts.Assign (l (codes "t7")) (exprs.Binary binary.Xor (n 18446744073709551609) (n 2))) ∷ inst (insts.Assign (l (codes "t8")) (exprs.Binary binary.Xor (n 0) (n 1))) ∷ inst (insts.Assign (l (codes "t9")) (exprs.Binary binary.Xor (n 8589934597) (n 3))) ∷ inst (insts.Assign (l (codes "t10")) (exprs.Binary binary.Xor (n 18446744073709551615) (n 1))) ∷ inst (insts.Assign (l (codes "t11")) (exprs.Binary binary.Xor (n 9223372036854775808) (n 2))) ∷ [])

xors-values : temps_after xors 12 (codes "t0" ∷ codes "t1" ∷ codes "t2" ∷ codes "t3" ∷ codes "t4" ∷ codes "t5" ∷ codes "t6" ∷ codes "t7" ∷ codes "t8" ∷ codes "t9" ∷ codes "t10" ∷ codes "t11" ∷ []) ≡ Some (Some 4294967289 ∷ Some 4294967291 ∷ Some 1 ∷ Some 6 ∷ Some 4294967294 ∷ Some 2147483650 ∷ Some 18446744073709551609 ∷ Some 18446744073709551611 ∷ Some 1 ∷ Some 8589934598 ∷ Some 18446744073709551614 ∷ Some 9223372036854775810 ∷ [])
unfolding runs
xors-values = refl

-- `sar`
abbrev sars : Program A0
sars = straight (inst (insts.Assign (w (codes "t0")) (exprs.Binary binary.Sar (n 1) (n 33))) ∷ inst (insts.Assign (w (codes "t1")) (exprs.Binary binary.Sar (n 18446744073709551608) (n 1))) ∷ inst (insts.Assign (w (codes "t2")) (exprs.Binary binary.Sar (n 18446744073709551608) (n 65))) ∷ inst (insts.Assign (w (codes "t3")) (exprs.Binary binary.Sar (n 2147483648) (n 63))) ∷ inst (insts.Assign (w (codes "t4")) (exprs.Binary binary.Sar (n 1099511627785) (n 4294967298))) ∷ inst (insts.Assign (l (codes "t5")) (exprs.Binary binary.Sar (n 1) (n 33))) ∷ inst (insts.Assign (l (codes "t6")) (exprs.Binary binary.Sar (n 18446744073709551608) (n 1))) ∷ inst (insts.Assign (l (codes "t7")) (exprs.Binary binary.Sar (n 18446744073709551608) (n 65))) ∷ inst (insts.Assign (l (codes "t8")) (exprs.Binary binary.Sar (n 9223372036854775808) (n 63))) ∷ inst (insts.Assign (l (codes "t9")) (exprs.Binary binary.Sar (n 1099511627785) (n 4294967298))) ∷ [])

sars-values : temps_after sars 10 (codes "t0" ∷ codes "t1" ∷ codes "t2" ∷ codes "t3" ∷ codes "t4" ∷ codes "t5" ∷ codes "t6" ∷ codes "t7" ∷ codes "t8" ∷ codes "t9" ∷ []) ≡ Some (Some 0 ∷ Some 4294967292 ∷ Some 4294967292 ∷ Some 4294967295 ∷ Some 2 ∷ Some 0 ∷ Some 18446744073709551612 ∷ Some 18446744073709551612 ∷ Some 18446744073709551615 ∷ Some 274877906946 ∷ [])
unfolding runs
sars-values = refl

-- `shr`
abbrev shrs : Program A0
shrs = straight (inst (insts.Assign (w (codes "t0")) (exprs.Binary binary.Shr (n 1) (n 33))) ∷ inst (insts.Assign (w (codes "t1")) (exprs.Binary binary.Shr (n 18446744073709551608) (n 1))) ∷ inst (insts.Assign (w (codes "t2")) (exprs.Binary binary.Shr (n 18446744073709551608) (n 65))) ∷ inst (insts.Assign (w (codes "t3")) (exprs.Binary binary.Shr (n 2147483648) (n 63))) ∷ inst (insts.Assign (w (codes "t4")) (exprs.Binary binary.Shr (n 1099511627785) (n 4294967298))) ∷ inst (insts.Assign (l (codes "t5")) (exprs.Binary binary.Shr (n 1) (n 33))) ∷ inst (insts.Assign (l (codes "t6")) (exprs.Binary binary.Shr (n 18446744073709551608) (n 1))) ∷ inst (insts.Assign (l (codes "t7")) (exprs.Binary binary.Shr (n 18446744073709551608) (n 65))) ∷ inst (insts.Assign (l (codes "t8")) (exprs.Binary binary.Shr (n 9223372036854775808) (n 63))) ∷ inst (insts.Assign (l (codes "t9")) (exprs.Binary binary.Shr (n 1099511627785) (n 4294967298))) ∷ [])

shrs-values : temps_after shrs 10 (codes "t0" ∷ codes "t1" ∷ codes "t2" ∷ codes "t3" ∷ codes "t4" ∷ codes "t5" ∷ codes "t6" ∷ codes "t7" ∷ codes "t8" ∷ codes "t9" ∷ []) ≡ Some (Some 0 ∷ Some 2147483644 ∷ Some 2147483644 ∷ Some 1 ∷ Some 2 ∷ Some 0 ∷ Some 9223372036854775804 ∷ Some 9223372036854775804 ∷ Some 1 ∷ Some 274877906946 ∷ [])
unfolding runs
shrs-values = refl

-- `shl`
abbrev shls : Program A0
shls = straight (inst (insts.Assign (w (codes "t0")) (exprs.Binary binary.Shl (n 1) (n 33))) ∷ inst (insts.Assign (w (codes "t1")) (exprs.Binary binary.Shl (n 18446744073709551608) (n 1))) ∷ inst (insts.Assign (w (codes "t2")) (exprs.Binary binary.Shl (n 18446744073709551608) (n 65))) ∷ inst (insts.Assign (w (codes "t3")) (exprs.Binary binary.Shl (n 2147483648) (n 63))) ∷ inst (insts.Assign (w (codes "t4")) (exprs.Binary binary.Shl (n 1099511627785) (n 4294967298))) ∷ inst (insts.Assign (l (codes "t5")) (exprs.Binary binary.Shl (n 1) (n 33))) ∷ inst (insts.Assign (l (codes "t6")) (exprs.Binary binary.Shl (n 18446744073709551608) (n 1))) ∷ inst (insts.Assign (l (codes "t7")) (exprs.Binary binary.Shl (n 18446744073709551608) (n 65))) ∷ inst (insts.Assign (l (codes "t8")) (exprs.Binary binary.Shl (n 9223372036854775808) (n 63))) ∷ inst (insts.Assign (l (codes "t9")) (exprs.Binary binary.Shl (n 1099511627785) (n 4294967298))) ∷ [])

shls-values : temps_after shls 10 (codes "t0" ∷ codes "t1" ∷ codes "t2" ∷ codes "t3" ∷ codes "t4" ∷ codes "t5" ∷ codes "t6" ∷ codes "t7" ∷ codes "t8" ∷ codes "t9" ∷ []) ≡ Some (Some 2 ∷ Some 4294967280 ∷ Some 4294967280 ∷ Some 0 ∷ Some 36 ∷ Some 8589934592 ∷ Some 18446744073709551600 ∷ Some 18446744073709551600 ∷ Some 0 ∷ Some 4398046511140 ∷ [])
unfolding runs
shls-values = refl

-- `copy`
abbrev copies : Program A0
copies = straight (inst (insts.Assign (w (codes "t0")) (exprs.Unary unary.Copy (n 0))) ∷ inst (insts.Assign (w (codes "t1")) (exprs.Unary unary.Copy (n 1))) ∷ inst (insts.Assign (w (codes "t2")) (exprs.Unary unary.Copy (n 18446744073709551615))) ∷ inst (insts.Assign (w (codes "t3")) (exprs.Unary unary.Copy (n 2147483648))) ∷ inst (insts.Assign (w (codes "t4")) (exprs.Unary unary.Copy (n 9223372036854775808))) ∷ inst (insts.Assign (w (codes "t5")) (exprs.Unary unary.Copy (n 8589934597))) ∷ inst (insts.Assign (l (codes "t6")) (exprs.Unary unary.Copy (n 0))) ∷ inst (insts.Assign (l (codes "t7")) (exprs.Unary unary.Copy (n 1))) ∷ inst (insts.Assign (l (codes "t8")) (exprs.Unary unary.Copy (n 18446744073709551615))) ∷ inst (insts.Assign (l (codes "t9")) (exprs.Unary unary.Copy (n 2147483648))) ∷ inst (insts.Assign (l (codes "t10")) (exprs.Unary unary.Copy (n 9223372036854775808))) ∷ inst (insts.Assign (l (codes "t11")) (exprs.Unary unary.Copy (n 8589934597))) ∷ [])

copies-values : temps_after copies 12 (codes "t0" ∷ codes "t1" ∷ codes "t2" ∷ codes "t3" ∷ codes "t4" ∷ codes "t5" ∷ codes "t6" ∷ codes "t7" ∷ codes "t8" ∷ codes "t9" ∷ codes "t10" ∷ codes "t11" ∷ []) ≡ Some (Some 0 ∷ Some 1 ∷ Some 4294967295 ∷ Some 2147483648 ∷ Some 0 ∷ Some 5 ∷ Some 0 ∷ Some 1 ∷ Some 18446744073709551615 ∷ Some 2147483648 ∷ Some 9223372036854775808 ∷ Some 8589934597 ∷ [])
unfolding runs
copies-values = refl

-- `neg`
abbrev negs : Program A0
negs = straight (inst (insts.Assign (w (codes "t0")) (exprs.Unary unary.Neg (n 0))) ∷ inst (insts.Assign (w (codes "t1")) (exprs.Unary unary.Neg (n 1))) ∷ inst (insts.Assign (w (codes "t2")) (exprs.Unary unary.Neg (n 18446744073709551615))) ∷ inst (insts.Assign (w (codes "t3")) (exprs.Unary unary.Neg (n 2147483648))) ∷ inst (insts.Assign (w (codes "t4")) (exprs.Unary unary.Neg (n 9223372036854775808))) ∷ inst (insts.Assign (w (codes "t5")) (exprs.Unary unary.Neg (n 8589934597))) ∷ inst (insts.Assign (l (codes "t6")) (exprs.Unary unary.Neg (n 0))) ∷ inst (insts.Assign (l (codes "t7")) (exprs.Unary unary.Neg (n 1))) ∷ inst (insts.Assign (l (codes "t8")) (exprs.Unary unary.Neg (n 18446744073709551615))) ∷ inst (insts.Assign (l (codes "t9")) (exprs.Unary unary.Neg (n 2147483648))) ∷ inst (insts.Assign (l (codes "t10")) (exprs.Unary unary.Neg (n 9223372036854775808))) ∷ inst (insts.Assign (l (codes "t11")) (exprs.Unary unary.Neg (n 8589934597))) ∷ [])

negs-values : temps_after negs 12 (codes "t0" ∷ codes "t1" ∷ codes "t2" ∷ codes "t3" ∷ codes "t4" ∷ codes "t5" ∷ codes "t6" ∷ codes "t7" ∷ codes "t8" ∷ codes "t9" ∷ codes "t10" ∷ codes "t11" ∷ []) ≡ Some (Some 0 ∷ Some 4294967295 ∷ Some 1 ∷ Some 2147483648 ∷ Some 0 ∷ Some 4294967291 ∷ Some 0 ∷ Some 18446744073709551615 ∷ Some 1 ∷ Some 18446744071562067968 ∷ Some 9223372036854775808 ∷ Some 18446744065119617019 ∷ [])
unfolding runs
negs-values = refl

-- `ceqw` and `ceql`
abbrev ceq : Program A0
ceq = straight (inst (insts.Assign (w (codes "t0")) (exprs.Compare compares.Eq classes.W (n 1) (n 1))) ∷ inst (insts.Assign (l (codes "t1")) (exprs.Compare compares.Eq classes.W (n 18446744073709551615) (n 1))) ∷ inst (insts.Assign (w (codes "t2")) (exprs.Compare compares.Eq classes.W (n 1) (n 18446744073709551615))) ∷ inst (insts.Assign (l (codes "t3")) (exprs.Compare compares.Eq classes.W (n 4294967297) (n 1))) ∷ inst (insts.Assign (w (codes "t4")) (exprs.Compare compares.Eq classes.W (n 2147483648) (n 2147483647))) ∷ inst (insts.Assign (l (codes "t5")) (exprs.Compare compares.Eq classes.L (n 1) (n 1))) ∷ inst (insts.Assign (w (codes "t6")) (exprs.Compare compares.Eq classes.L (n 18446744073709551615) (n 1))) ∷ inst (insts.Assign (l (codes "t7")) (exprs.Compare compares.Eq classes.L (n 1) (n 18446744073709551615))) ∷ inst (insts.Assign (w (codes "t8")) (exprs.Compare compares.Eq classes.L (n 4294967297) (n 1))) ∷ inst (insts.Assign (l (codes "t9")) (exprs.Compare compares.Eq classes.L (n 9223372036854775808) (n 9223372036854775807))) ∷ [])

ceq-values : temps_after ceq 10 (codes "t0" ∷ codes "t1" ∷ codes "t2" ∷ codes "t3" ∷ codes "t4" ∷ codes "t5" ∷ codes "t6" ∷ codes "t7" ∷ codes "t8" ∷ codes "t9" ∷ []) ≡ Some (Some 1 ∷ Some 0 ∷ Some 0 ∷ Some 1 ∷ Some 0 ∷ Some 1 ∷ Some 0 ∷ Some 0 ∷ Some 0 ∷ Some 0 ∷ [])
unfolding runs
ceq-values = refl

-- `cnew` and `cnel`
abbrev cne : Program A0
cne = straight (inst (insts.Assign (w (codes "t0")) (exprs.Compare compares.Ne classes.W (n 1) (n 1))) ∷ inst (insts.Assign (l (codes "t1")) (exprs.Compare compares.Ne classes.W (n 18446744073709551615) (n 1))) ∷ inst (insts.Assign (w (codes "t2")) (exprs.Compare compares.Ne classes.W (n 1) (n 18446744073709551615))) ∷ inst (insts.Assign (l (codes "t3")) (exprs.Compare compares.Ne classes.W (n 4294967297) (n 1))) ∷ inst (insts.Assign (w (codes "t4")) (exprs.Compare compares.Ne classes.W (n 2147483648) (n 2147483647))) ∷ inst (insts.Assign (l (codes "t5")) (exprs.Compare compares.Ne classes.L (n 1) (n 1))) ∷ inst (insts.Assign (w (codes "t6")) (exprs.Compare compares.Ne classes.L (n 18446744073709551615) (n 1))) ∷ inst (insts.Assign (l (codes "t7")) (exprs.Compare compares.Ne classes.L (n 1) (n 18446744073709551615))) ∷ inst (insts.Assign (w (codes "t8")) (exprs.Compare compares.Ne classes.L (n 4294967297) (n 1))) ∷ inst (insts.Assign (l (codes "t9")) (exprs.Compare compares.Ne classes.L (n 9223372036854775808) (n 9223372036854775807))) ∷ [])

cne-values : temps_after cne 10 (codes "t0" ∷ codes "t1" ∷ codes "t2" ∷ codes "t3" ∷ codes "t4" ∷ codes "t5" ∷ codes "t6" ∷ codes "t7" ∷ codes "t8" ∷ codes "t9" ∷ []) ≡ Some (Some 0 ∷ Some 1 ∷ Some 1 ∷ Some 0 ∷ Some 1 ∷ Some 0 ∷ Some 1 ∷ Some 1 ∷ Some 1 ∷ Some 1 ∷ [])
unfolding runs
cne-values = refl

-- `cslew` and `cslel`
abbrev csle : Program A0
csle = straight (inst (insts.Assign (w (codes "t0")) (exprs.Compare compares.Sle classes.W (n 1) (n 1))) ∷ inst (insts.Assign (l (codes "t1")) (exprs.Compare compares.Sle classes.W (n 18446744073709551615) (n 1))) ∷ inst (insts.Assign (w (codes "t2")) (exprs.Compare compares.Sle classes.W (n 1) (n 18446744073709551615))) ∷ inst (insts.Assign (l (codes "t3")) (exprs.Compare compares.Sle classes.W (n 4294967297) (n 1))) ∷ inst (insts.Assign (w (codes "t4")) (exprs.Compare compares.Sle classes.W (n 2147483648) (n 2147483647))) ∷ inst (insts.Assign (l (codes "t5")) (exprs.Compare compares.Sle classes.L (n 1) (n 1))) ∷ inst (insts.Assign (w (codes "t6")) (exprs.Compare compares.Sle classes.L (n 18446744073709551615) (n 1))) ∷ inst (insts.Assign (l (codes "t7")) (exprs.Compare compares.Sle classes.L (n 1) (n 18446744073709551615))) ∷ inst (insts.Assign (w (codes "t8")) (exprs.Compare compares.Sle classes.L (n 4294967297) (n 1))) ∷ inst (insts.Assign (l (codes "t9")) (exprs.Compare compares.Sle classes.L (n 9223372036854775808) (n 9223372036854775807))) ∷ [])

csle-values : temps_after csle 10 (codes "t0" ∷ codes "t1" ∷ codes "t2" ∷ codes "t3" ∷ codes "t4" ∷ codes "t5" ∷ codes "t6" ∷ codes "t7" ∷ codes "t8" ∷ codes "t9" ∷ []) ≡ Some (Some 1 ∷ Some 1 ∷ Some 0 ∷ Some 1 ∷ Some 1 ∷ Some 1 ∷ Some 1 ∷ Some 0 ∷ Some 0 ∷ Some 1 ∷ [])
unfolding runs
csle-values = refl

-- `csltw` and `csltl`
abbrev cslt : Program A0
cslt = straight (inst (insts.Assign (w (codes "t0")) (exprs.Compare compares.Slt classes.W (n 1) (n 1))) ∷ inst (insts.Assign (l (codes "t1")) (exprs.Compare compares.Slt classes.W (n 18446744073709551615) (n 1))) ∷ inst (insts.Assign (w (codes "t2")) (exprs.Compare compares.Slt classes.W (n 1) (n 18446744073709551615))) ∷ inst (insts.Assign (l (codes "t3")) (exprs.Compare compares.Slt classes.W (n 4294967297) (n 1))) ∷ inst (insts.Assign (w (codes "t4")) (exprs.Compare compares.Slt classes.W (n 2147483648) (n 2147483647))) ∷ inst (insts.Assign (l (codes "t5")) (exprs.Compare compares.Slt classes.L (n 1) (n 1))) ∷ inst (insts.Assign (w (codes "t6")) (exprs.Compare compares.Slt classes.L (n 18446744073709551615) (n 1))) ∷ inst (insts.Assign (l (codes "t7")) (exprs.Compare compares.Slt classes.L (n 1) (n 18446744073709551615))) ∷ inst (insts.Assign (w (codes "t8")) (exprs.Compare compares.Slt classes.L (n 4294967297) (n 1))) ∷ inst (insts.Assign (l (codes "t9")) (exprs.Compare compares.Slt classes.L (n 9223372036854775808) (n 9223372036854775807))) ∷ [])

cslt-values : temps_after cslt 10 (codes "t0" ∷ codes "t1" ∷ codes "t2" ∷ codes "t3" ∷ codes "t4" ∷ codes "t5" ∷ codes "t6" ∷ codes "t7" ∷ codes "t8" ∷ codes "t9" ∷ []) ≡ Some (Some 0 ∷ Some 1 ∷ Some 0 ∷ Some 0 ∷ Some 1 ∷ Some 0 ∷ Some 1 ∷ Some 0 ∷ Some 0 ∷ Some 1 ∷ [])
unfolding runs
cslt-values = refl

-- `csgew` and `csgel`
abbrev csge : Program A0
csge = straight (inst (insts.Assign (w (codes "t0")) (exprs.Compare compares.Sge classes.W (n 1) (n 1))) ∷ inst (insts.Assign (l (codes "t1")) (exprs.Compare compares.Sge classes.W (n 18446744073709551615) (n 1))) ∷ inst (insts.Assign (w (codes "t2")) (exprs.Compare compares.Sge classes.W (n 1) (n 18446744073709551615))) ∷ inst (insts.Assign (l (codes "t3")) (exprs.Compare compares.Sge classes.W (n 4294967297) (n 1))) ∷ inst (insts.Assign (w (codes "t4")) (exprs.Compare compares.Sge classes.W (n 2147483648) (n 2147483647))) ∷ inst (insts.Assign (l (codes "t5")) (exprs.Compare compares.Sge classes.L (n 1) (n 1))) ∷ inst (insts.Assign (w (codes "t6")) (exprs.Compare compares.Sge classes.L (n 18446744073709551615) (n 1))) ∷ inst (insts.Assign (l (codes "t7")) (exprs.Compare compares.Sge classes.L (n 1) (n 18446744073709551615))) ∷ inst (insts.Assign (w (codes "t8")) (exprs.Compare compares.Sge classes.L (n 4294967297) (n 1))) ∷ inst (insts.Assign (l (codes "t9")) (exprs.Compare compares.Sge classes.L (n 9223372036854775808) (n 9223372036854775807))) ∷ [])

csge-values : temps_after csge 10 (codes "t0" ∷ codes "t1" ∷ codes "t2" ∷ codes "t3" ∷ codes "t4" ∷ codes "t5" ∷ codes "t6" ∷ codes "t7" ∷ codes "t8" ∷ codes "t9" ∷ []) ≡ Some (Some 1 ∷ Some 0 ∷ Some 1 ∷ Some 1 ∷ Some 0 ∷ Some 1 ∷ Some 0 ∷ Some 1 ∷ Some 1 ∷ Some 0 ∷ [])
unfolding runs
csge-values = refl

-- `csgtw` and `csgtl`
abbrev csgt : Program A0
csgt = straight (inst (insts.Assign (w (codes "t0")) (exprs.Compare compares.Sgt classes.W (n 1) (n 1))) ∷ inst (insts.Assign (l (codes "t1")) (exprs.Compare compares.Sgt classes.W (n 18446744073709551615) (n 1))) ∷ inst (insts.Assign (w (codes "t2")) (exprs.Compare compares.Sgt classes.W (n 1) (n 18446744073709551615))) ∷ inst (insts.Assign (l (codes "t3")) (exprs.Compare compares.Sgt classes.W (n 4294967297) (n 1))) ∷ inst (insts.Assign (w (codes "t4")) (exprs.Compare compares.Sgt classes.W (n 2147483648) (n 2147483647))) ∷ inst (insts.Assign (l (codes "t5")) (exprs.Compare compares.Sgt classes.L (n 1) (n 1))) ∷ inst (insts.Assign (w (codes "t6")) (exprs.Compare compares.Sgt classes.L (n 18446744073709551615) (n 1))) ∷ inst (insts.Assign (l (codes "t7")) (exprs.Compare compares.Sgt classes.L (n 1) (n 18446744073709551615))) ∷ inst (insts.Assign (w (codes "t8")) (exprs.Compare compares.Sgt classes.L (n 4294967297) (n 1))) ∷ inst (insts.Assign (l (codes "t9")) (exprs.Compare compares.Sgt classes.L (n 9223372036854775808) (n 9223372036854775807))) ∷ [])

csgt-values : temps_after csgt 10 (codes "t0" ∷ codes "t1" ∷ codes "t2" ∷ codes "t3" ∷ codes "t4" ∷ codes "t5" ∷ codes "t6" ∷ codes "t7" ∷ codes "t8" ∷ codes "t9" ∷ []) ≡ Some (Some 0 ∷ Some 0 ∷ Some 1 ∷ Some 0 ∷ Some 0 ∷ Some 0 ∷ Some 0 ∷ Some 1 ∷ Some 1 ∷ Some 0 ∷ [])
unfolding runs
csgt-values = refl

-- `culew` and `culel`
abbrev cule : Program A0
cule = straight (inst (insts.Assign (w (codes "t0")) (exprs.Compare compares.Ule classes.W (n 1) (n 1))) ∷ inst (insts.Assign (l (codes "t1")) (exprs.Compare compares.Ule classes.W (n 18446744073709551615) (n 1))) ∷ inst (insts.Assign (w (codes "t2")) (exprs.Compare compares.Ule classes.W (n 1) (n 18446744073709551615))) ∷ inst (insts.Assign (l (codes "t3")) (exprs.Compare compares.Ule classes.W (n 4294967297) (n 1))) ∷ inst (insts.Assign (w (codes "t4")) (exprs.Compare compares.Ule classes.W (n 2147483648) (n 2147483647))) ∷ inst (insts.Assign (l (codes "t5")) (exprs.Compare compares.Ule classes.L (n 1) (n 1))) ∷ inst (insts.Assign (w (codes "t6")) (exprs.Compare compares.Ule classes.L (n 18446744073709551615) (n 1))) ∷ inst (insts.Assign (l (codes "t7")) (exprs.Compare compares.Ule classes.L (n 1) (n 18446744073709551615))) ∷ inst (insts.Assign (w (codes "t8")) (exprs.Compare compares.Ule classes.L (n 4294967297) (n 1))) ∷ inst (insts.Assign (l (codes "t9")) (exprs.Compare compares.Ule classes.L (n 9223372036854775808) (n 9223372036854775807))) ∷ [])

cule-values : temps_after cule 10 (codes "t0" ∷ codes "t1" ∷ codes "t2" ∷ codes "t3" ∷ codes "t4" ∷ codes "t5" ∷ codes "t6" ∷ codes "t7" ∷ codes "t8" ∷ codes "t9" ∷ []) ≡ Some (Some 1 ∷ Some 0 ∷ Some 1 ∷ Some 1 ∷ Some 0 ∷ Some 1 ∷ Some 0 ∷ Some 1 ∷ Some 0 ∷ Some 0 ∷ [])
unfolding runs
cule-values = refl

-- `cultw` and `cultl`
abbrev cult : Program A0
cult = straight (inst (insts.Assign (w (codes "t0")) (exprs.Compare compares.Ult classes.W (n 1) (n 1))) ∷ inst (insts.Assign (l (codes "t1")) (exprs.Compare compares.Ult classes.W (n 18446744073709551615) (n 1))) ∷ inst (insts.Assign (w (codes "t2")) (exprs.Compare compares.Ult classes.W (n 1) (n 18446744073709551615))) ∷ inst (insts.Assign (l (codes "t3")) (exprs.Compare compares.Ult classes.W (n 4294967297) (n 1))) ∷ inst (insts.Assign (w (codes "t4")) (exprs.Compare compares.Ult classes.W (n 2147483648) (n 2147483647))) ∷ inst (insts.Assign (l (codes "t5")) (exprs.Compare compares.Ult classes.L (n 1) (n 1))) ∷ inst (insts.Assign (w (codes "t6")) (exprs.Compare compares.Ult classes.L (n 18446744073709551615) (n 1))) ∷ inst (insts.Assign (l (codes "t7")) (exprs.Compare compares.Ult classes.L (n 1) (n 18446744073709551615))) ∷ inst (insts.Assign (w (codes "t8")) (exprs.Compare compares.Ult classes.L (n 4294967297) (n 1))) ∷ inst (insts.Assign (l (codes "t9")) (exprs.Compare compares.Ult classes.L (n 9223372036854775808) (n 9223372036854775807))) ∷ [])

cult-values : temps_after cult 10 (codes "t0" ∷ codes "t1" ∷ codes "t2" ∷ codes "t3" ∷ codes "t4" ∷ codes "t5" ∷ codes "t6" ∷ codes "t7" ∷ codes "t8" ∷ codes "t9" ∷ []) ≡ Some (Some 0 ∷ Some 0 ∷ Some 1 ∷ Some 0 ∷ Some 0 ∷ Some 0 ∷ Some 0 ∷ Some 1 ∷ Some 0 ∷ Some 0 ∷ [])
unfolding runs
cult-values = refl

-- `cugew` and `cugel`
abbrev cuge : Program A0
cuge = straight (inst (insts.Assign (w (codes "t0")) (exprs.Compare compares.Uge classes.W (n 1) (n 1))) ∷ inst (insts.Assign (l (codes "t1")) (exprs.Compare compares.Uge classes.W (n 18446744073709551615) (n 1))) ∷ inst (insts.Assign (w (codes "t2")) (exprs.Compare compares.Uge classes.W (n 1) (n 18446744073709551615))) ∷ inst (insts.Assign (l (codes "t3")) (exprs.Compare compares.Uge classes.W (n 4294967297) (n 1))) ∷ inst (insts.Assign (w (codes "t4")) (exprs.Compare compares.Uge classes.W (n 2147483648) (n 2147483647))) ∷ inst (insts.Assign (l (codes "t5")) (exprs.Compare compares.Uge classes.L (n 1) (n 1))) ∷ inst (insts.Assign (w (codes "t6")) (exprs.Compare compares.Uge classes.L (n 18446744073709551615) (n 1))) ∷ inst (insts.Assign (l (codes "t7")) (exprs.Compare compares.Uge classes.L (n 1) (n 18446744073709551615))) ∷ inst (insts.Assign (w (codes "t8")) (exprs.Compare compares.Uge classes.L (n 4294967297) (n 1))) ∷ inst (insts.Assign (l (codes "t9")) (exprs.Compare compares.Uge classes.L (n 9223372036854775808) (n 9223372036854775807))) ∷ [])

cuge-values : temps_after cuge 10 (codes "t0" ∷ codes "t1" ∷ codes "t2" ∷ codes "t3" ∷ codes "t4" ∷ codes "t5" ∷ codes "t6" ∷ codes "t7" ∷ codes "t8" ∷ codes "t9" ∷ []) ≡ Some (Some 1 ∷ Some 1 ∷ Some 0 ∷ Some 1 ∷ Some 1 ∷ Some 1 ∷ Some 1 ∷ Some 0 ∷ Some 1 ∷ Some 1 ∷ [])
unfolding runs
cuge-values = refl

-- `cugtw` and `cugtl`
abbrev cugt : Program A0
cugt = straight (inst (insts.Assign (w (codes "t0")) (exprs.Compare compares.Ugt classes.W (n 1) (n 1))) ∷ inst (insts.Assign (l (codes "t1")) (exprs.Compare compares.Ugt classes.W (n 18446744073709551615) (n 1))) ∷ inst (insts.Assign (w (codes "t2")) (exprs.Compare compares.Ugt classes.W (n 1) (n 18446744073709551615))) ∷ inst (insts.Assign (l (codes "t3")) (exprs.Compare compares.Ugt classes.W (n 4294967297) (n 1))) ∷ inst (insts.Assign (w (codes "t4")) (exprs.Compare compares.Ugt classes.W (n 2147483648) (n 2147483647))) ∷ inst (insts.Assign (l (codes "t5")) (exprs.Compare compares.Ugt classes.L (n 1) (n 1))) ∷ inst (insts.Assign (w (codes "t6")) (exprs.Compare compares.Ugt classes.L (n 18446744073709551615) (n 1))) ∷ inst (insts.Assign (l (codes "t7")) (exprs.Compare compares.Ugt classes.L (n 1) (n 18446744073709551615))) ∷ inst (insts.Assign (w (codes "t8")) (exprs.Compare compares.Ugt classes.L (n 4294967297) (n 1))) ∷ inst (insts.Assign (l (codes "t9")) (exprs.Compare compares.Ugt classes.L (n 9223372036854775808) (n 9223372036854775807))) ∷ [])

cugt-values : temps_after cugt 10 (codes "t0" ∷ codes "t1" ∷ codes "t2" ∷ codes "t3" ∷ codes "t4" ∷ codes "t5" ∷ codes "t6" ∷ codes "t7" ∷ codes "t8" ∷ codes "t9" ∷ []) ≡ Some (Some 0 ∷ Some 1 ∷ Some 0 ∷ Some 0 ∷ Some 1 ∷ Some 0 ∷ Some 1 ∷ Some 0 ∷ Some 1 ∷ Some 1 ∷ [])
unfolding runs
cugt-values = refl

-- `extsw`
abbrev extsw : Program A0
extsw = straight (inst (insts.Assign (l (codes "t0")) (exprs.Extend extensions.Sw (n 0))) ∷ inst (insts.Assign (l (codes "t1")) (exprs.Extend extensions.Sw (n 18446744073709551615))) ∷ inst (insts.Assign (l (codes "t2")) (exprs.Extend extensions.Sw (n 127))) ∷ inst (insts.Assign (l (codes "t3")) (exprs.Extend extensions.Sw (n 128))) ∷ inst (insts.Assign (l (codes "t4")) (exprs.Extend extensions.Sw (n 511))) ∷ inst (insts.Assign (l (codes "t5")) (exprs.Extend extensions.Sw (n 32767))) ∷ inst (insts.Assign (l (codes "t6")) (exprs.Extend extensions.Sw (n 32768))) ∷ inst (insts.Assign (l (codes "t7")) (exprs.Extend extensions.Sw (n 98304))) ∷ inst (insts.Assign (l (codes "t8")) (exprs.Extend extensions.Sw (n 2147483648))) ∷ inst (insts.Assign (l (codes "t9")) (exprs.Extend extensions.Sw (n 2147483647))) ∷ [])

extsw-values : temps_after extsw 10 (codes "t0" ∷ codes "t1" ∷ codes "t2" ∷ codes "t3" ∷ codes "t4" ∷ codes "t5" ∷ codes "t6" ∷ codes "t7" ∷ codes "t8" ∷ codes "t9" ∷ []) ≡ Some (Some 0 ∷ Some 18446744073709551615 ∷ Some 127 ∷ Some 128 ∷ Some 511 ∷ Some 32767 ∷ Some 32768 ∷ Some 98304 ∷ Some 18446744071562067968 ∷ Some 2147483647 ∷ [])
unfolding runs
extsw-values = refl

-- `extuw`
abbrev extuw : Program A0
extuw = straight (inst (insts.Assign (l (codes "t0")) (exprs.Extend extensions.Uw (n 0))) ∷ inst (insts.Assign (l (codes "t1")) (exprs.Extend extensions.Uw (n 18446744073709551615))) ∷ inst (insts.Assign (l (codes "t2")) (exprs.Extend extensions.Uw (n 127))) ∷ inst (insts.Assign (l (codes "t3")) (exprs.Extend extensions.Uw (n 128))) ∷ inst (insts.Assign (l (codes "t4")) (exprs.Extend extensions.Uw (n 511))) ∷ inst (insts.Assign (l (codes "t5")) (exprs.Extend extensions.Uw (n 32767))) ∷ inst (insts.Assign (l (codes "t6")) (exprs.Extend extensions.Uw (n 32768))) ∷ inst (insts.Assign (l (codes "t7")) (exprs.Extend extensions.Uw (n 98304))) ∷ inst (insts.Assign (l (codes "t8")) (exprs.Extend extensions.Uw (n 2147483648))) ∷ inst (insts.Assign (l (codes "t9")) (exprs.Extend extensions.Uw (n 2147483647))) ∷ [])

extuw-values : temps_after extuw 10 (codes "t0" ∷ codes "t1" ∷ codes "t2" ∷ codes "t3" ∷ codes "t4" ∷ codes "t5" ∷ codes "t6" ∷ codes "t7" ∷ codes "t8" ∷ codes "t9" ∷ []) ≡ Some (Some 0 ∷ Some 4294967295 ∷ Some 127 ∷ Some 128 ∷ Some 511 ∷ Some 32767 ∷ Some 32768 ∷ Some 98304 ∷ Some 2147483648 ∷ Some 2147483647 ∷ [])
unfolding runs
extuw-values = refl

-- `extsh`
abbrev extsh : Program A0
extsh = straight (inst (insts.Assign (w (codes "t0")) (exprs.Extend extensions.Sh (n 0))) ∷ inst (insts.Assign (w (codes "t1")) (exprs.Extend extensions.Sh (n 18446744073709551615))) ∷ inst (insts.Assign (w (codes "t2")) (exprs.Extend extensions.Sh (n 127))) ∷ inst (insts.Assign (w (codes "t3")) (exprs.Extend extensions.Sh (n 128))) ∷ inst (insts.Assign (w (codes "t4")) (exprs.Extend extensions.Sh (n 511))) ∷ inst (insts.Assign (w (codes "t5")) (exprs.Extend extensions.Sh (n 32767))) ∷ inst (insts.Assign (w (codes "t6")) (exprs.Extend extensions.Sh (n 32768))) ∷ inst (insts.Assign (w (codes "t7")) (exprs.Extend extensions.Sh (n 98304))) ∷ inst (insts.Assign (w (codes "t8")) (exprs.Extend extensions.Sh (n 2147483648))) ∷ inst (insts.Assign (w (codes "t9")) (exprs.Extend extensions.Sh (n 2147483647))) ∷ inst (insts.Assign (l (codes "t10")) (exprs.Extend extensions.Sh (n 0))) ∷ inst (insts.Assign (l (codes "t11")) (exprs.Extend extensions.Sh (n 18446744073709551615))) ∷ inst (insts.Assign (l (codes "t12")) (exprs.Extend extensions.Sh (n 127))) ∷ inst (insts.Assign (l (codes "t13")) (exprs.Extend extensions.Sh (n 128))) ∷ inst (insts.Assign (l (codes "t14")) (exprs.Extend extensions.Sh (n 511))) ∷ inst (insts.Assign (l (codes "t15")) (exprs.Extend extensions.Sh (n 32767))) ∷ inst (insts.Assign (l (codes "t16")) (exprs.Extend extensions.Sh (n 32768))) ∷ inst (insts.Assign (l (codes "t17")) (exprs.Extend extensions.Sh (n 98304))) ∷ inst (insts.Assign (l (codes "t18")) (exprs.Extend extensions.Sh (n 2147483648))) ∷ inst (insts.Assign (l (codes "t19")) (exprs.Extend extensions.Sh (n 2147483647))) ∷ [])

extsh-values : temps_after extsh 20 (codes "t0" ∷ codes "t1" ∷ codes "t2" ∷ codes "t3" ∷ codes "t4" ∷ codes "t5" ∷ codes "t6" ∷ codes "t7" ∷ codes "t8" ∷ codes "t9" ∷ codes "t10" ∷ codes "t11" ∷ codes "t12" ∷ codes "t13" ∷ codes "t14" ∷ codes "t15" ∷ codes "t16" ∷ codes "t17" ∷ codes "t18" ∷ codes "t19" ∷ []) ≡ Some (Some 0 ∷ Some 4294967295 ∷ Some 127 ∷ Some 128 ∷ Some 511 ∷ Some 32767 ∷ Some 4294934528 ∷ Some 4294934528 ∷ Some 0 ∷ Some 4294967295 ∷ Some 0 ∷ Some 18446744073709551615 ∷ Some 127 ∷ Some 128 ∷ Some 511 ∷ Some 32767 ∷ Some 18446744073709518848 ∷ Some 18446744073709518848 ∷ Some 0 ∷ Some 18446744073709551615 ∷ [])
unfolding runs
extsh-values = refl

-- `extuh`
abbrev extuh : Program A0
extuh = straight (inst (insts.Assign (w (codes "t0")) (exprs.Extend extensions.Uh (n 0))) ∷ inst (insts.Assign (w (codes "t1")) (exprs.Extend extensions.Uh (n 18446744073709551615))) ∷ inst (insts.Assign (w (codes "t2")) (exprs.Extend extensions.Uh (n 127))) ∷ inst (insts.Assign (w (codes "t3")) (exprs.Extend extensions.Uh (n 128))) ∷ inst (insts.Assign (w (codes "t4")) (exprs.Extend extensions.Uh (n 511))) ∷ inst (insts.Assign (w (codes "t5")) (exprs.Extend extensions.Uh (n 32767))) ∷ inst (insts.Assign (w (codes "t6")) (exprs.Extend extensions.Uh (n 32768))) ∷ inst (insts.Assign (w (codes "t7")) (exprs.Extend extensions.Uh (n 98304))) ∷ inst (insts.Assign (w (codes "t8")) (exprs.Extend extensions.Uh (n 2147483648))) ∷ inst (insts.Assign (w (codes "t9")) (exprs.Extend extensions.Uh (n 2147483647))) ∷ inst (insts.Assign (l (codes "t10")) (exprs.Extend extensions.Uh (n 0))) ∷ inst (insts.Assign (l (codes "t11")) (exprs.Extend extensions.Uh (n 18446744073709551615))) ∷ inst (insts.Assign (l (codes "t12")) (exprs.Extend extensions.Uh (n 127))) ∷ inst (insts.Assign (l (codes "t13")) (exprs.Extend extensions.Uh (n 128))) ∷ inst (insts.Assign (l (codes "t14")) (exprs.Extend extensions.Uh (n 511))) ∷ inst (insts.Assign (l (codes "t15")) (exprs.Extend extensions.Uh (n 32767))) ∷ inst (insts.Assign (l (codes "t16")) (exprs.Extend extensions.Uh (n 32768))) ∷ inst (insts.Assign (l (codes "t17")) (exprs.Extend extensions.Uh (n 98304))) ∷ inst (insts.Assign (l (codes "t18")) (exprs.Extend extensions.Uh (n 2147483648))) ∷ inst (insts.Assign (l (codes "t19")) (exprs.Extend extensions.Uh (n 2147483647))) ∷ [])

extuh-values : temps_after extuh 20 (codes "t0" ∷ codes "t1" ∷ codes "t2" ∷ codes "t3" ∷ codes "t4" ∷ codes "t5" ∷ codes "t6" ∷ codes "t7" ∷ codes "t8" ∷ codes "t9" ∷ codes "t10" ∷ codes "t11" ∷ codes "t12" ∷ codes "t13" ∷ codes "t14" ∷ codes "t15" ∷ codes "t16" ∷ codes "t17" ∷ codes "t18" ∷ codes "t19" ∷ []) ≡ Some (Some 0 ∷ Some 65535 ∷ Some 127 ∷ Some 128 ∷ Some 511 ∷ Some 32767 ∷ Some 32768 ∷ Some 32768 ∷ Some 0 ∷ Some 65535 ∷ Some 0 ∷ Some 65535 ∷ Some 127 ∷ Some 128 ∷ Some 511 ∷ Some 32767 ∷ Some 32768 ∷ Some 32768 ∷ Some 0 ∷ Some 65535 ∷ [])
unfolding runs
extuh-values = refl

-- `extsb`
abbrev extsb : Program A0
extsb = straight (inst (insts.Assign (w (codes "t0")) (exprs.Extend extensions.Sb (n 0))) ∷ inst (insts.Assign (w (codes "t1")) (exprs.Extend extensions.Sb (n 18446744073709551615))) ∷ inst (insts.Assign (w (codes "t2")) (exprs.Extend extensions.Sb (n 127))) ∷ inst (insts.Assign (w (codes "t3")) (exprs.Extend extensions.Sb (n 128))) ∷ inst (insts.Assign (w (codes "t4")) (exprs.Extend extensions.Sb (n 511))) ∷ inst (insts.Assign (w (codes "t5")) (exprs.Extend extensions.Sb (n 32767))) ∷ inst (insts.Assign (w (codes "t6")) (exprs.Extend extensions.Sb (n 32768))) ∷ inst (insts.Assign (w (codes "t7")) (exprs.Extend extensions.Sb (n 98304))) ∷ inst (insts.Assign (w (codes "t8")) (exprs.Extend extensions.Sb (n 2147483648))) ∷ inst (insts.Assign (w (codes "t9")) (exprs.Extend extensions.Sb (n 2147483647))) ∷ inst (insts.Assign (l (codes "t10")) (exprs.Extend extensions.Sb (n 0))) ∷ inst (insts.Assign (l (codes "t11")) (exprs.Extend extensions.Sb (n 18446744073709551615))) ∷ inst (insts.Assign (l (codes "t12")) (exprs.Extend extensions.Sb (n 127))) ∷ inst (insts.Assign (l (codes "t13")) (exprs.Extend extensions.Sb (n 128))) ∷ inst (insts.Assign (l (codes "t14")) (exprs.Extend extensions.Sb (n 511))) ∷ inst (insts.Assign (l (codes "t15")) (exprs.Extend extensions.Sb (n 32767))) ∷ inst (insts.Assign (l (codes "t16")) (exprs.Extend extensions.Sb (n 32768))) ∷ inst (insts.Assign (l (codes "t17")) (exprs.Extend extensions.Sb (n 98304))) ∷ inst (insts.Assign (l (codes "t18")) (exprs.Extend extensions.Sb (n 2147483648))) ∷ inst (insts.Assign (l (codes "t19")) (exprs.Extend extensions.Sb (n 2147483647))) ∷ [])

extsb-values : temps_after extsb 20 (codes "t0" ∷ codes "t1" ∷ codes "t2" ∷ codes "t3" ∷ codes "t4" ∷ codes "t5" ∷ codes "t6" ∷ codes "t7" ∷ codes "t8" ∷ codes "t9" ∷ codes "t10" ∷ codes "t11" ∷ codes "t12" ∷ codes "t13" ∷ codes "t14" ∷ codes "t15" ∷ codes "t16" ∷ codes "t17" ∷ codes "t18" ∷ codes "t19" ∷ []) ≡ Some (Some 0 ∷ Some 4294967295 ∷ Some 127 ∷ Some 4294967168 ∷ Some 4294967295 ∷ Some 4294967295 ∷ Some 0 ∷ Some 0 ∷ Some 0 ∷ Some 4294967295 ∷ Some 0 ∷ Some 18446744073709551615 ∷ Some 127 ∷ Some 18446744073709551488 ∷ Some 18446744073709551615 ∷ Some 18446744073709551615 ∷ Some 0 ∷ Some 0 ∷ Some 0 ∷ Some 18446744073709551615 ∷ [])
unfolding runs
extsb-values = refl

-- `extub`
abbrev extub : Program A0
extub = straight (inst (insts.Assign (w (codes "t0")) (exprs.Extend extensions.Ub (n 0))) ∷ inst (insts.Assign (w (codes "t1")) (exprs.Extend extensions.Ub (n 18446744073709551615))) ∷ inst (insts.Assign (w (codes "t2")) (exprs.Extend extensions.Ub (n 127))) ∷ inst (insts.Assign (w (codes "t3")) (exprs.Extend extensions.Ub (n 128))) ∷ inst (insts.Assign (w (codes "t4")) (exprs.Extend extensions.Ub (n 511))) ∷ inst (insts.Assign (w (codes "t5")) (exprs.Extend extensions.Ub (n 32767))) ∷ inst (insts.Assign (w (codes "t6")) (exprs.Extend extensions.Ub (n 32768))) ∷ inst (insts.Assign (w (codes "t7")) (exprs.Extend extensions.Ub (n 98304))) ∷ inst (insts.Assign (w (codes "t8")) (exprs.Extend extensions.Ub (n 2147483648))) ∷ inst (insts.Assign (w (codes "t9")) (exprs.Extend extensions.Ub (n 2147483647))) ∷ inst (insts.Assign (l (codes "t10")) (exprs.Extend extensions.Ub (n 0))) ∷ inst (insts.Assign (l (codes "t11")) (exprs.Extend extensions.Ub (n 18446744073709551615))) ∷ inst (insts.Assign (l (codes "t12")) (exprs.Extend extensions.Ub (n 127))) ∷ inst (insts.Assign (l (codes "t13")) (exprs.Extend extensions.Ub (n 128))) ∷ inst (insts.Assign (l (codes "t14")) (exprs.Extend extensions.Ub (n 511))) ∷ inst (insts.Assign (l (codes "t15")) (exprs.Extend extensions.Ub (n 32767))) ∷ inst (insts.Assign (l (codes "t16")) (exprs.Extend extensions.Ub (n 32768))) ∷ inst (insts.Assign (l (codes "t17")) (exprs.Extend extensions.Ub (n 98304))) ∷ inst (insts.Assign (l (codes "t18")) (exprs.Extend extensions.Ub (n 2147483648))) ∷ inst (insts.Assign (l (codes "t19")) (exprs.Extend extensions.Ub (n 2147483647))) ∷ [])

extub-values : temps_after extub 20 (codes "t0" ∷ codes "t1" ∷ codes "t2" ∷ codes "t3" ∷ codes "t4" ∷ codes "t5" ∷ codes "t6" ∷ codes "t7" ∷ codes "t8" ∷ codes "t9" ∷ codes "t10" ∷ codes "t11" ∷ codes "t12" ∷ codes "t13" ∷ codes "t14" ∷ codes "t15" ∷ codes "t16" ∷ codes "t17" ∷ codes "t18" ∷ codes "t19" ∷ []) ≡ Some (Some 0 ∷ Some 255 ∷ Some 127 ∷ Some 128 ∷ Some 255 ∷ Some 255 ∷ Some 0 ∷ Some 0 ∷ Some 0 ∷ Some 255 ∷ Some 0 ∷ Some 255 ∷ Some 127 ∷ Some 128 ∷ Some 255 ∷ Some 255 ∷ Some 0 ∷ Some 0 ∷ Some 0 ∷ Some 255 ∷ [])
unfolding runs
extub-values = refl
