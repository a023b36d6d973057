use Rattle.std.proofs.Common.{◌≡◌, drop}
use Rattle.qil_state.proofs.Passing.{first_unset}
use Rattle.qil_state.proofs.arguments.check_arguments.Given as goal

-- what is after has no unset slot
abbrev pub invariant-loop-one : goal.invariant-loop-one
invariant-loop-one g l = first_unset l.slots (drop l.one-index l.args) ≡ first_unset l.slots l.args
