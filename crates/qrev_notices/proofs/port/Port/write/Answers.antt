-- The frame was written, or a part of it.
use Rattle.std.proofs.Common.{◌≡◌, ◌∙◌, subst, List, ℕ}
use Rattle.std.specs.Io.KnownBytes.{Appends}
use Rattle.qil_streams.specs.Device.{IsPrefixOf}
use Rattle.qrev_protocol.specs.Frame.{framed}
use Rattle.qrev_notices.specs.declared.trouble.Trouble.TheVariants.{Device}
use Rattle.qrev_notices.specs.Conversation.{spoken}
use Rattle.qrev_notices.proofs.Replies.{sends_exit}
use Rattle.qrev_notices.proofs.port.Port.write.Goals as goal

pub returns-in_err-write_all : goal.returns-in_err-write_all
returns-in_err-write_all g c =
    let at = spoken g.W.Sink.contents in
    let whole : c.as_slice.result.now ≡ framed c.args.text.now = c.as_slice.ensures.value ∙ c.in_ok-frame.ensures in
    let put = c.in_err-write_all.ensures.text in
    sends_exit (Unit {0}) c.from_residual-in_err-write_all.result Device c.args.text.now (at c.args.self.now) _ c.from_residual-in_err-write_all.ensures.1 (put.0, subst (IsPrefixOf put.0) whole put.1, put.2)

pub returns : goal.returns
returns g c =
    let whole : c.as_slice.result.now ≡ framed c.args.text.now = c.as_slice.ensures.value ∙ c.in_ok-frame.ensures in
    (subst (λ (v : List ℕ). Appends (g.W.Sink.contents c.args.self.now.sink) (g.W.Sink.contents c.write_all.new.sink) v) whole c.in_ok-write_all.ensures.text, c.requires.numbered)
