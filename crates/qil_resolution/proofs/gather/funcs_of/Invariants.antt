-- The names so far, with those that are left, are all.
use Rattle.std.proofs.Common.{◌≡◌, drop, []}
use Rattle.std.specs.Prelude.{map}
use Rattle.qil_symbols.specs.Numbers.{recorded}
use Rattle.qil_resolution.proofs.gather.funcs_of.Given as goal

abbrev pub invariant-loop-func : goal.invariant-loop-func
invariant-loop-func g l = recorded l.names (map (λ f. f.name) (drop l.func-index l.funcs)) ≡ recorded [] (map (λ f. f.name) l.funcs)
