-- The occurrences so far, and those of the arguments that are left, are all occurrences.
use Rattle.std.proofs.Common.{◌≡◌, ◌++◌, drop, map}
use Rattle.std.specs.List.{flat_map}
use Rattle.qil_rules.specs.Operands.{argument_read}
use Rattle.qil_rules.specs.Occurrences.{read_occurrences}
use Rattle.qil_checker.proofs.walk.push_arguments.Given as goal

abbrev pub invariant-loop-argument : goal.invariant-loop-argument
invariant-loop-argument g l = l.out.items ++ flat_map (read_occurrences l.line) (map argument_read (drop l.argument-index l.arguments)) ≡ l.fn.out.items ++ flat_map (read_occurrences l.line) (map argument_read l.arguments)
