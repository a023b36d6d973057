-- A space, and the value.
use Rattle.std.proofs.Common.{◌++◌, codes}
use Rattle.qil_comparison.specs.Told.{place_text, value_text, further_value, values_text, returned_text, event_line, found_line, way_line, side_text, verdict_line, sides_text}
use Rattle.qil_compare.specs.Coded.{value_of}
use Rattle.qil_streams.proofs.TextLemmas.{HasPut-as, HasPut-append, HasPut-stop}
use Rattle.qil_comparison.proofs.event_text.put_last_seen.Goals as goal

pub returns-in_err-put : goal.returns-in_err-put
returns-in_err-put g c =
    HasPut-stop _ _ c.from_residual.ensures.1 _ _ _ (codes " ") ((value_text (value_of c.args.value)) ++ (codes "\n")) c.in_err-put.ensures

pub returns-in_err-put_seen : goal.returns-in_err-put_seen
returns-in_err-put_seen g c =
    HasPut-append _ _ _ _ _ (codes " ") ((value_text (value_of c.args.value)) ++ (codes "\n")) c.in_ok-put.ensures
    (HasPut-stop _ _ c.from_residual-in_err-put_seen.ensures.1 _ _ _ (value_text (value_of c.args.value)) (codes "\n") c.in_err-put_seen.ensures)

pub returns : goal.returns
returns g c =
    HasPut-append _ _ _ _ _ (codes " ") ((value_text (value_of c.args.value)) ++ (codes "\n")) c.in_ok-put.ensures
    (HasPut-append _ _ _ _ _ (value_text (value_of c.args.value)) (codes "\n") c.in_ok-put_seen.ensures
    (c.put-2.ensures))
