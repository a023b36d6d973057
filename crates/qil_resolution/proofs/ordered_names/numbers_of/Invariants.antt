-- The numbers so far, with the names that are left, are those of all names.
use Rattle.std.proofs.Common.{◌≡◌, [], drop}
use Rattle.std.specs.Prelude.{map}
use Rattle.qil_symbols.specs.Numbers.{recorded}
use Rattle.qil_resolution.proofs.ordered_names.numbers_of.Given as goal

abbrev pub invariant-loop-name : goal.invariant-loop-name
invariant-loop-name g l = recorded l.numbers (map (λ n. n.now) (drop l.name-index l.names)) ≡ recorded [] (map (λ n. n.now) l.names)
