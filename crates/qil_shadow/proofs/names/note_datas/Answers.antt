-- One object more is noted.
use Rattle.std.proofs.Common.{◌+◌, drop, arith}
use Rattle.qil_shadow.proofs.NumberedNames.{one_data, left_from}
use Rattle.qil_shadow.proofs.names.note_datas.Goals as goal

pub loop-object-preserved : goal.loop-object-preserved
loop-object-preserved g c =
    let xs = c.args.datas.now in
    let d = c.object-item.result in
    let i = c.loop-object.object-index in
    let left = left_from xs i d c.loop-object-test.true c.object-item.is in
    (λ x. one_data _ _ _ c.loop-object.number _ _ x d _ (drop (i + 1) xs) left c.in_ok-number.ensures c.bytes.ensures (c.in_ok-note.ensures x) (c.loop-object.invariant.0 x), omega (arith, c.in_ok-number.ensures, c.loop-object.invariant.1))
