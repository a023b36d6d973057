-- The occurrences so far, and those of the phis that are left, are all occurrences.
use Rattle.std.proofs.Common.{◌≡◌, ◌++◌, drop}
use Rattle.std.specs.List.{flat_map}
use Rattle.qil_rules.specs.Occurrences.{phi_occurrences}
use Rattle.qil_checker.proofs.walk.push_phis.Given as goal

abbrev pub invariant-loop-phi : goal.invariant-loop-phi
invariant-loop-phi g l = l.out.items ++ flat_map (phi_occurrences l.block) (drop l.phi-index l.phis) ≡ l.fn.out.items ++ flat_map (phi_occurrences l.block) l.phis
