-- Answers to the goals of `put_next_byte`.
use Rattle.std.proofs.Common.{codes}
use Rattle.qil_streams.proofs.TextLemmas.{HasPut-append, HasPut-stop}
use Rattle.qil_render.specs.Texts.{byte_text}
use Rattle.qil_render.proofs.bytes.put_next_byte.Goals as goal

pub returns-in_err-put : goal.returns-in_err-put
returns-in_err-put g c =
    HasPut-stop _ _ c.from_residual.ensures.1 _ _ _ (codes " ") (byte_text c.args.byte) c.in_err-put.ensures

pub returns : goal.returns
returns g c = HasPut-append _ _ _ _ _ (codes " ") (byte_text c.args.byte) c.in_ok-put.ensures c.put_byte.ensures
