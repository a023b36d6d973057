-- The lines of stops, where there are some, or `none`.
use Rattle.qil_replies.specs.Texts.{listed_line}
use Rattle.qil_replies.proofs.Lines.{lines_none, lines_some}
use Rattle.qil_replies.proofs.stops.put_stops.Goals as goal

pub returns-then-stops-eq0 : goal.returns-then-stops-eq0
returns-then-stops-eq0 g c = rw (lines_none (listed_line c.args.code.now) c.args.stops.now c.if-stops-eq0.true) c.put_line.ensures

pub returns-else-stops-eq0 : goal.returns-else-stops-eq0
returns-else-stops-eq0 g c = rw (lines_some (listed_line c.args.code.now) c.args.stops.now c.if-stops-eq0.false) c.put_listed.ensures
