-- The good side, and the bad one.
use Rattle.std.proofs.Common.{◌∷◌, [], ◌++◌, ◌∙◌, codes, decimal, ap, sym, List, ℕ}
use Rattle.qil_comparison.specs.Told.{place_text, value_text, further_value, values_text, returned_text, event_line, found_line, way_line, side_text, verdict_line, sides_text}
use Rattle.qil_streams.proofs.TextLemmas.{HasPut-as, HasPut-append, HasPut-stop}
use Rattle.qil_comparison.proofs.telling.put_sides.Goals as goal

pub returns-in_err-put_side : goal.returns-in_err-put_side
returns-in_err-put_side g c =
    HasPut-stop _ _ c.from_residual.ensures.1 _ _ _ (side_text (codes "good: ") (g.R.Readers.whole c.args.good.now).program (g.R.Forward.timeline c.args.good.now) c.args.answer.good) (side_text (codes "bad: ") (g.R.Readers.whole c.args.bad.now).program (g.R.Forward.timeline c.args.bad.now) c.args.answer.bad) c.in_err-put_side.ensures

pub returns : goal.returns
returns g c =
    HasPut-append _ _ _ _ _ (side_text (codes "good: ") (g.R.Readers.whole c.args.good.now).program (g.R.Forward.timeline c.args.good.now) c.args.answer.good) (side_text (codes "bad: ") (g.R.Readers.whole c.args.bad.now).program (g.R.Forward.timeline c.args.bad.now) c.args.answer.bad) c.in_ok-put_side.ensures
    (c.put_side-2.ensures)
