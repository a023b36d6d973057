-- A breakpoint may hold exactly where it is held: by hand, so that another answer is refused at once.
use Rattle.std.proofs.Common.{◌∙◌, sym}
use Rattle.qil_stops.proofs.looking.may_break.Goals as goal

pub returns-clause-unbroken : goal.returns-clause-unbroken
returns-clause-unbroken g c = λ not_held. sym c.is_held.ensures ∙ not_held
