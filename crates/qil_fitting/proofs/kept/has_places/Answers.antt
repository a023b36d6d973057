use Rattle.qil_fitting.proofs.Fitting.{low_places, places_low}
use Rattle.qil_fitting.proofs.kept.has_places.Goals as goal

pub returns-else-count-eq0 : goal.returns-else-count-eq0
returns-else-count-eq0 g c = (
  λ t. low_places c.args.memory.now c.args.address c.args.count c.args.number (rw (c.from.ensures, c.from-2.ensures) at (c.has_bytes-inside.ensures.places.0 t)),
  λ h. c.has_bytes-inside.ensures.places.1 (rw (c.from.ensures, c.from-2.ensures) (places_low c.args.memory.now c.args.address c.args.count c.args.number c.if-count-eq0.false h)),
)
