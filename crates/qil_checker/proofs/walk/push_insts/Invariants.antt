-- The occurrences so far, and those of the instructions that are left, are all occurrences.
use Rattle.std.proofs.Common.{◌≡◌, ◌++◌, drop}
use Rattle.std.specs.List.{flat_map}
use Rattle.qil_rules.specs.Occurrences.{inst_occurrences}
use Rattle.qil_checker.proofs.walk.push_insts.Given as goal

abbrev pub invariant-loop-inst : goal.invariant-loop-inst
invariant-loop-inst g l = l.out.items ++ flat_map inst_occurrences (drop l.inst-index l.insts) ≡ l.fn.out.items ++ flat_map inst_occurrences l.insts
