use Rattle.std.proofs.Common.{None, arith}
use Rattle.qil_frames.specs.declared.saved.SavedSlot.{SavedSlot}
use Rattle.qil_frames.proofs.Exchanging.{exchanged_more}
use Rattle.qil_frames.proofs.values.exchange.Goals as goal

pub loop-i-preserved : goal.loop-i-preserved
loop-i-preserved c =
    let d : SavedSlot = record { slot = record { index = 0 }; value = None } in
    rw (c.from-in-loop-i.ensures, c.from.ensures) (exchanged_more c.args.new.now c.loop-i.new c.args.values.now c.loop-i.values c.loop-i.i d (omega arith) c.loop-i.invariant)
