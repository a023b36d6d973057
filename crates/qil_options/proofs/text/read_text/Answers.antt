-- That a file wasn't read, by hand: another failure is a type that differs.
use Rattle.std.proofs.Common.{inl, refl}
use Rattle.qil_options.proofs.text.read_text.Goals as goal

pub returns-in-Err-2 : goal.returns-in-Err-2
returns-in-Err-2 g c = inl refl
