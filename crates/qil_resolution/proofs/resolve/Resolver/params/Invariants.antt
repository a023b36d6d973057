-- The parameters so far, with those that are left, are all.
use Rattle.std.proofs.Common.{◌≡◌, ◌++◌, drop}
use Rattle.std.specs.Prelude.{map}
use Rattle.qil_code.specs.Numbered.{param_of}
use Rattle.qil_resolution.proofs.resolve.Resolver.params.Given as goal

abbrev pub invariant-loop-param : goal.invariant-loop-param
invariant-loop-param g l = l.out.items ++ map (param_of l.self.temps.now) (drop l.param-index l.params) ≡ map (param_of l.self.temps.now) l.params
