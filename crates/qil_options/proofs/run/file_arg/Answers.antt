-- That the file is asked for, by hand: where it isn't, the types differ.
use Rattle.std.proofs.Common.{refl}
use Rattle.qil_options.proofs.run.file_arg.Goals as goal

pub returns-clause-required : goal.returns-clause-required
returns-clause-required c = rw (c.action.ensures, c.required.ensures) refl
