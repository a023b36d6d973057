-- One function more is noted.
use Rattle.std.proofs.Common.{◌+◌, drop, arith}
use Rattle.qil_shadow.proofs.NumberedNames.{one_function, left_from}
use Rattle.qil_shadow.proofs.names.note_funcs.Goals as goal

pub loop-func-preserved : goal.loop-func-preserved
loop-func-preserved g c =
    let xs = c.args.funcs.now in
    let d = c.func-item.result in
    let i = c.loop-func.func-index in
    let left = left_from xs i d c.loop-func-test.true c.func-item.is in
    (λ x. one_function _ _ _ c.loop-func.number _ _ x d _ (drop (i + 1) xs) left c.in_ok-number.ensures c.bytes.ensures (c.in_ok-note.ensures x) (c.loop-func.invariant.0 x), omega (arith, c.in_ok-number.ensures, c.loop-func.invariant.1))
