-- Answers to the goals of `put_loaded`.
use Rattle.std.proofs.Common.{length}
use Rattle.qil_streams.proofs.TextLemmas.{Puts-append, Puts-stop}
use Rattle.qil_layout.specs.Layout.{bytes_of}
use Rattle.qil_render.specs.Texts.{place_line}
use Rattle.qil_loading.specs.Lines.{loaded_line}
use Rattle.qil_transcript.proofs.debugging.put_loaded.Goals as goal

pub returns-in_err-put_loaded_line-clause-text : goal.returns-in_err-put_loaded_line-clause-text
returns-in_err-put_loaded_line-clause-text g c = λ verdict loaded.
    Puts-stop _ _ c.from_residual.ensures.1 c.in_err-put_loaded_line.field-0.0 _ _
    (loaded_line (length verdict.program.funcs) (length (bytes_of verdict.program)) verdict.form) (place_line (g.H.Runs.timeline c.args.session.now.history))
    (rw (loaded.funcs, loaded.bytes, loaded.form) at c.in_err-put_loaded_line.ensures.text)

pub returns-clause-text : goal.returns-clause-text
returns-clause-text g c = λ verdict loaded.
    Puts-append _ _ _ _ (loaded_line (length verdict.program.funcs) (length (bytes_of verdict.program)) verdict.form) (place_line (g.H.Runs.timeline c.args.session.now.history))
    (rw (loaded.funcs, loaded.bytes, loaded.form) at c.in_ok-put_loaded_line.ensures.text)
    c.put_now.ensures.text
