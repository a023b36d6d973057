-- A comma and a space, and the value.
use Rattle.std.proofs.Common.{◌∷◌, [], ◌++◌, ◌∙◌, codes, decimal, ap, sym, List, ℕ}
use Rattle.qil_comparison.specs.Told.{place_text, value_text, further_value, values_text, returned_text, event_line, found_line, way_line, side_text, verdict_line, sides_text}
use Rattle.qil_compare.specs.Coded.{value_of}
use Rattle.qil_streams.proofs.TextLemmas.{HasPut-as, HasPut-append, HasPut-stop}
use Rattle.qil_comparison.proofs.event_text.put_next_seen.Goals as goal

pub returns-in_err-put : goal.returns-in_err-put
returns-in_err-put g c =
    HasPut-stop _ _ c.from_residual.ensures.1 _ _ _ (codes ", ") (value_text (value_of c.args.value)) c.in_err-put.ensures

pub returns : goal.returns
returns g c =
    HasPut-append _ _ _ _ _ (codes ", ") (value_text (value_of c.args.value)) c.in_ok-put.ensures
    (c.put_seen.ensures)
