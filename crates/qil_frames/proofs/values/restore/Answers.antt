-- The last goes back first: by hand, so that another order is refused at once.
use Rattle.std.proofs.Common.{◌∙◌, arith}
use Rattle.std.proofs.lemmas.List.{length-set}
use Rattle.qil_frames.proofs.ValueLemmas.{restored_more}
use Rattle.qil_frames.proofs.values.restore.Goals as goal

pub loop-i-preserved : goal.loop-i-preserved
loop-i-preserved c =
    let i = c.loop-i.invariant in
    record {
      inside = omega (arith, i.inside);
      room = length-set c.loop-i.values c.from.result _ ∙ i.room;
      so_far = rw c.from.ensures (restored_more c.args.kept.now c.loop-i.i c.args.values.now c.loop-i.values _ c.loop-i-test.true i.inside i.so_far);
    }
