-- One more stop, above all others.
use Rattle.std.proofs.Common.{arith, sym, subst, List, ◌+◌}
use Rattle.std.proofs.lemmas.Grind.{common_steps}
use Rattle.qil_stops.specs.declared.stop.NumberedStop.{NumberedStop}
use Rattle.qil_stops.specs.Listed.{IsRising, AreReadable}
use Rattle.qil_stops.proofs.Kept.{rising-push, readable-push}
use Rattle.qil_stops.proofs.stops.Stops.add.Goals as goal

pub invariant_of-self : goal.invariant_of-self
invariant_of-self g c =
    let i = c.self.invariant in
    let pushed = c.in-Ok.ensures.items in (
      grind (arith, common_steps),
      grind (arith, common_steps),
      omega arith,
      subst (λ (l : List NumberedStop). IsRising 0 l (c.self.inside.given + 1)) (sym pushed) (rising-push 0 c.self.inside.given c.self.inside.kept.items _ i.3 (omega arith)),
      subst (λ (l : List NumberedStop). AreReadable l) (sym pushed) (readable-push c.self.inside.kept.items _ i.4 c.requires),
    )
