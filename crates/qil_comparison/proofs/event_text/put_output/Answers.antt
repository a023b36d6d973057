-- The byte in quotes.
use Rattle.std.proofs.Common.{◌∷◌, [], ◌++◌, ◌∙◌, codes, decimal, ap, sym, List, ℕ}
use Rattle.qil_render.specs.Texts.{byte_text, quoted_byte, state_line}
use Rattle.qil_streams.proofs.TextLemmas.{HasPut-as, HasPut-append, HasPut-stop}
use Rattle.qil_comparison.proofs.event_text.put_output.Goals as goal

pub returns-in_err-put : goal.returns-in_err-put
returns-in_err-put g c =
    HasPut-stop _ _ c.from_residual.ensures.1 _ _ _ (codes "output \"") ((quoted_byte c.args.byte) ++ (codes "\"\n")) c.in_err-put.ensures

pub returns-in_err-put_quoted : goal.returns-in_err-put_quoted
returns-in_err-put_quoted g c =
    HasPut-append _ _ _ _ _ (codes "output \"") ((quoted_byte c.args.byte) ++ (codes "\"\n")) c.in_ok-put.ensures
    (HasPut-stop _ _ c.from_residual-in_err-put_quoted.ensures.1 _ _ _ (quoted_byte c.args.byte) (codes "\"\n") c.in_err-put_quoted.ensures)

pub returns : goal.returns
returns g c =
    HasPut-append _ _ _ _ _ (codes "output \"") ((quoted_byte c.args.byte) ++ (codes "\"\n")) c.in_ok-put.ensures
    (HasPut-append _ _ _ _ _ (quoted_byte c.args.byte) (codes "\"\n") c.in_ok-put_quoted.ensures
    (c.put-2.ensures))
