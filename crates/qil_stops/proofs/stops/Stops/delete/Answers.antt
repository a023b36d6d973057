-- The stop that is taken out is the one of the number.
use Rattle.std.proofs.Common.{arith, ◌∙◌, sym, ap, subst, List, length, ◌≡◌, Some}
use Rattle.std.specs.Prelude.{remove, option_map, slice_get}
use Rattle.qil_stops.specs.declared.stop.NumberedStop.{NumberedStop}
use Rattle.qil_stops.specs.Listed.{IsRising, AreReadable, without}
use Rattle.qil_stops.proofs.Kept.{rising-remove, readable-remove, length-remove, without-at, listed-without}
use Rattle.qil_stops.proofs.stops.Stops.delete.Goals as goal

pub invariant_of-self : goal.invariant_of-self
invariant_of-self g c =
    let i = c.self.invariant in
    let kept = c.self.inside.kept.items in
    let same : c.remove.new.self.items ≡ remove kept c.in-Some.index = c.remove.ensures.items in (
      omega (arith, ap length same, length-remove kept c.in-Some.index, i.0),
      omega (arith, c.remove.ensures.capacity, i.1),
      i.2,
      subst (λ (l : List NumberedStop). IsRising 0 l c.self.inside.given) (sym same) (rising-remove 0 c.self.inside.given kept c.in-Some.index i.3),
      subst (λ (l : List NumberedStop). AreReadable l) (sym same) (readable-remove kept c.in-Some.index i.4),
    )

pub returns-in-Some-clause-ok : goal.returns-in-Some-clause-ok
returns-in-Some-clause-ok g c =
    let kept = c.self.inside.kept.items in
    let given = c.self.inside.given in
    let at : option_map (λ (stop : NumberedStop). stop.number) (slice_get kept c.in-Some.index) ≡ Some c.args.number =
    ap (λ (l : List NumberedStop). option_map (λ (stop : NumberedStop). stop.number) (slice_get l c.in-Some.index)) (sym c.as_slice.ensures.value) ∙ c.in-Some.ensures.some in
    let same : c.remove.new.self.items ≡ without c.args.number kept = c.remove.ensures.items ∙ without-at 0 given c.args.number kept c.in-Some.index c.self.invariant.3 at in
    listed-without given kept c.remove.new.self.items c.args.number c.args.self.now same c.self.view_is
