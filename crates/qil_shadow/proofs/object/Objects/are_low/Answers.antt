-- By the invariant.
use Rattle.std.proofs.Common.{ap, subst}
use Rattle.std.specs.Prelude.{All}
use Rattle.std.proofs.lemmas.List.Elements.{All-from_recursion}
use Rattle.qil_shadow.specs.Table.{ObjectTable, IsLow}
use Rattle.qil_shadow.proofs.object.Objects.are_low.Goals as goal

pub returns : goal.returns
returns g c = subst (λ (t : ObjectTable). All IsLow t.objects) c.self.view_is (All-from_recursion IsLow c.self.inside.all.items c.self.invariant.low)
