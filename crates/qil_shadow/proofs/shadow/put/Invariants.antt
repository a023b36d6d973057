-- With those that are left all would be set.
use Rattle.std.proofs.Common.{◌≡◌, drop}
use Rattle.qil_shadow.specs.Moves.{with_all}
use Rattle.qil_shadow.proofs.shadow.put.Given as goal

abbrev pub invariant-loop-one : goal.invariant-loop-one
invariant-loop-one g l = with_all (drop l.one-index l.moved) l.calls ≡ with_all l.moved l.fn.calls
