-- The names so far, with those that are left, are all.
use Rattle.std.proofs.Common.{◌≡◌, drop}
use Rattle.qil_symbols.specs.Numbers.{recorded}
use Rattle.qil_code.specs.Gather.{param_names}
use Rattle.qil_resolution.proofs.gather.note_params.Given as goal

abbrev pub invariant-loop-param : goal.invariant-loop-param
invariant-loop-param g l = recorded l.names (param_names (drop l.param-index l.params)) ≡ recorded l.fn.names (param_names l.params)
