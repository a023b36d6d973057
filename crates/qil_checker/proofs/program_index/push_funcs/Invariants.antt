-- The texts so far, and those of the functions that are left, are all texts.
use Rattle.std.proofs.Common.{◌≡◌, ◌++◌, drop, map}
use Rattle.qil_rules.specs.Occurrences.{func_occurrences}
use Rattle.qil_checker.specs.Whole.{occurrences_of}
use Rattle.qil_checker.proofs.program_index.push_funcs.Given as goal

abbrev pub invariant-loop-func : goal.invariant-loop-func
invariant-loop-func g l = occurrences_of l.out.items ++ map func_occurrences (drop l.func-index l.funcs) ≡ occurrences_of l.fn.out.items ++ map func_occurrences l.funcs
