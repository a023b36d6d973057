-- Answers to the goals of `loaded_text`.
use Rattle.std.proofs.Common.{length, Some}
use Rattle.qil_layout.specs.Layout.{bytes_of}
use Rattle.qil_replies.specs.qil_render.Texts.{place_line}
use Rattle.qil_loading.specs.Lines.{loaded_line}
use Rattle.qil_replies.specs.Reply.{reply_text}
use Rattle.qrev_recorder.proofs.Recording.{both_put}
use Rattle.qrev_recorder.proofs.keeping.loaded_text.Goals as goal

pub returns-in-Ok-put_reply : goal.returns-in-Ok-put_reply
unfolding reply_text
returns-in-Ok-put_reply g c = λ verdict loaded.
    both_put (Some c.new-text.result.text.items) (Some c.put_loaded_line.new.out.text.items) (Some c.put_reply.new.out.text.items)
    (loaded_line (length verdict.program.funcs) (length (bytes_of verdict.program)) verdict.form) (place_line (g.L.Debugged.state c.args.live.now).timeline) c.new-text.ensures.written
    (rw (loaded.funcs, loaded.bytes, loaded.form) at c.in-Ok.ensures.text)
    c.in-Ok-put_reply.ensures.text
