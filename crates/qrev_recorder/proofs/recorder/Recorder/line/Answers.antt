-- Answers to the goals of `Recorder::line`.
use Rattle.std.proofs.Common.{◌≡◌, ◌++◌, ap, sym, ◌∙◌, refl}
use Rattle.std.proofs.Math.Logic.{∥∥₁_elim, ∥∥₁_prop}
use Rattle.qil_replies.specs.Answers.{is_quit, Replies}
use Rattle.qrev_recorder.proofs.Recording.{line_more, text_is}
use Rattle.qrev_recorder.proofs.recorder.Recorder.line.Goals as goal

pub invariant_of-self-2 : goal.invariant_of-self-2
invariant_of-self-2 g c =
    let same = text_is c.bytes.result.now _ _ c.bytes.ensures c.in_ok-text.ensures in
    record {
      bounded = rw c.reply-reply.ensures.limit c.args.self.now.bounded;
      recorded = λ whole. ∥∥₁_elim (c.args.self.now.recorded c.in_default.ensures.whole) ∥∥₁_prop
          (λ r. ∣ line_more _ _ _ c.args.line.now _ _ _ _ _ r (c.if-not-is_line.ensures.0 refl)
          (ap is_quit (sym c.read_command-said.ensures) ∙ sym c.is_quit.ensures ∙ c.if-is_quit.false)
          (rw c.read_command-said.ensures at c.reply-reply.ensures.replied)
          c.in_ok-add_line.ensures
          (c.in_ok-extend_from_slice.ensures.items ∙ ap (λ t. c.args.self.now.transcript.items ++ t) same) ∣₁);
    }
