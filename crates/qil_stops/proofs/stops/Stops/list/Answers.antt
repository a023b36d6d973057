-- What the stops represent is listed by number too.
use Rattle.std.proofs.Common.{subst}
use Rattle.qil_semantics.specs.Stops.{AreListed}
use Rattle.qil_stops.specs.Listed.{Listed}
use Rattle.qil_stops.specs.Named.{named_stops}
use Rattle.qil_stops.proofs.Naming.{named-listed}
use Rattle.qil_stops.proofs.stops.Stops.list.Goals as goal

pub returns-clause-listed : goal.returns-clause-listed
returns-clause-listed g c = λ p. subst (λ (stops : Listed). AreListed 0 (named_stops p stops.kept)) c.self.view_is (named-listed p 0 c.self.inside.given c.self.inside.kept.items c.self.invariant.3)
