-- The texts so far, and those of the data objects that are left, are all texts.
use Rattle.std.proofs.Common.{◌≡◌, ◌++◌, drop, map}
use Rattle.qil_rules.specs.Occurrences.{data_occurrences}
use Rattle.qil_checker.specs.Whole.{occurrences_of}
use Rattle.qil_checker.proofs.program_index.push_datas.Given as goal

abbrev pub invariant-loop-object : goal.invariant-loop-object
invariant-loop-object g l = occurrences_of l.out.items ++ map data_occurrences (drop l.object-index l.datas) ≡ occurrences_of l.fn.out.items ++ map data_occurrences l.datas
