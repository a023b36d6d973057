-- Answers to the goals of `Recorder::record`.
use Rattle.std.proofs.Math.Logic.{∥∥₁_elim, ∥∥₁_prop}
use Rattle.qrev_recorder.proofs.Recording.{recorded_session}
use Rattle.qrev_recorder.proofs.recorder.Recorder.record.Goals as goal

pub returns-clause-session : goal.returns-clause-session
returns-clause-session g c =
    ∥∥₁_elim (c.args.self.now.recorded c.if-not-self.false) ∥∥₁_prop
    (λ r. ∣ rw (c.as_slice.ensures.value, c.as_slice-2.ensures.value) (recorded_session _ _ c.args.self.now.script.items c.args.self.now.transcript.items r) ∣₁)
