-- The occurrences so far, and those of the parameters that are left, are all occurrences.
use Rattle.std.proofs.Common.{◌≡◌, ◌++◌, drop, map}
use Rattle.qil_rules.specs.Occurrences.{param_occurrence}
use Rattle.qil_checker.proofs.walk.push_params.Given as goal

abbrev pub invariant-loop-param : goal.invariant-loop-param
invariant-loop-param g l = l.out.items ++ map (param_occurrence l.line) (drop l.param-index l.params) ≡ l.fn.out.items ++ map (param_occurrence l.line) l.params
