-- A write that took none of some bytes isn't passed on.
use Rattle.qil_streams.proofs.DeviceLemmas.{not_none}
use Rattle.qil_streams.proofs.device.IntoWriterSink.write.Goals.{then-count-gt0, else-count-gt0}
use Rattle.qil_streams.proofs.device.IntoWriterSink.write.Goals as goal

pub returns-in-Ok-clause-moves : goal.returns-in-Ok-clause-moves
returns-in-Ok-clause-moves g c some = elim c.if-count-gt0.branch [
  | then-count-gt0 w ↦ w.if-count-gt0.true
  | else-count-gt0 w ↦ absurd (not_none _ w.is_empty.result _ w.is_empty.ensures w.value-is c.if-is_empty.true some)
]
