-- Answers to the goals of `Recorder::new`.
use Rattle.std.proofs.Common.{ap, ◌∙◌}
use Rattle.qil_replies.specs.SessionState.{SessionState}
use Rattle.qrev_recorder.proofs.Recording.{recording_begun, text_is}
use Rattle.qrev_recorder.proofs.recorder.Recorder.new.Goals as goal

pub invariant_of-result : goal.invariant_of-result
invariant_of-result g c =
    let begins = c.requires.begins in
    let same = text_is c.bytes.result.now _ _ c.bytes.ensures (c.in_ok-text.ensures begins.verdict begins.loaded_is) in
    let limit = ap (λ (s : SessionState g.row.A.Denot). s.limit) begins.opened_is in
    record {
      bounded = rw limit c.requires.limit;
      recorded = λ whole. ∣ rw c.new.ensures.items (recording_begun _ c.args.loaded.now _ begins _ (c.in_ok-transcript.ensures.items ∙ same)) ∣₁;
    }
