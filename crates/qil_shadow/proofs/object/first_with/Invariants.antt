-- None of those before has the byte.
use Rattle.std.proofs.Common.{◌≡◌, drop}
use Rattle.std.specs.Prelude.{find}
use Rattle.qil_shadow.specs.Table.{has_one}
use Rattle.qil_shadow.proofs.object.first_with.Given as goal

abbrev pub invariant-loop-object : goal.invariant-loop-object
invariant-loop-object l = find (has_one l.address) (drop l.object-index l.objects) ≡ find (has_one l.address) l.objects
