-- One more write keeps what was written and the rest.
use Rattle.std.proofs.Common.{◌∙◌}
use Rattle.qil_streams.proofs.DeviceLemmas.{wrote_more}
use Rattle.qil_streams.proofs.put.write_all.Goals as goal

pub loop-rest-preserved : goal.loop-rest-preserved
loop-rest-preserved g c =
    (c.in_ok-count.ensures.counted ∙ c.loop-rest.invariant.0, wrote_more _ _ _ _ _ _ c.loop-rest.invariant.1 c.in_ok-count.ensures.bytes)
