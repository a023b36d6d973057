-- The names so far, with those that are left, are all.
use Rattle.std.proofs.Common.{◌≡◌, drop}
use Rattle.qil_symbols.specs.Numbers.{recorded}
use Rattle.qil_code.specs.Gather.{arguments_names}
use Rattle.qil_resolution.proofs.gather.note_arguments.Given as goal

abbrev pub invariant-loop-argument : goal.invariant-loop-argument
invariant-loop-argument g l = recorded l.names (arguments_names (drop l.argument-index l.arguments)) ≡ recorded l.fn.names (arguments_names l.arguments)
