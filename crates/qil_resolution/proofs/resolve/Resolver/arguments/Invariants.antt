-- The arguments so far, with those that are left, are all.
use Rattle.std.proofs.Common.{◌≡◌, ◌++◌, drop}
use Rattle.std.specs.Prelude.{map}
use Rattle.qil_code.specs.Numbered.{argument_of}
use Rattle.qil_resolution.proofs.resolve.Resolver.arguments.Given as goal

abbrev pub invariant-loop-argument : goal.invariant-loop-argument
invariant-loop-argument g l = l.out.items ++ map (argument_of l.self.image.now l.self.temps.now) (drop l.argument-index l.arguments) ≡ map (argument_of l.self.image.now l.self.temps.now) l.arguments
