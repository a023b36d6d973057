-- Which name stands for none, by hand: where it is another, the types differ.
use Rattle.std.proofs.Common.{refl}
use Rattle.qil_options.proofs.run.entry_arg.Goals as goal

pub returns-clause-default : goal.returns-clause-default
returns-clause-default c = rw c.default_value.ensures refl
