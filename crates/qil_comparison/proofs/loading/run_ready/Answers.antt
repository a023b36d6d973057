-- Both codes are flat, of the same programs.
use Rattle.std.specs.Prelude.{None}
use Rattle.std.proofs.Common.{◌∙◌, refl}
use Rattle.qil_comparison.specs.Compared.{setup_of}
use Rattle.qil_comparison.proofs.Comparisons.{Written-memory}
use Rattle.qil_comparison.proofs.loading.run_ready.Goals as goal

pub returns-in-Err-clause-written : goal.returns-in-Err-clause-written
returns-in-Err-clause-written g c = λ one two p q good bad ep eq. Written-memory g.row.A.Denot (setup_of one two c.args.request.now) _ None _ _ refl

pub returns-in-Ok-flatten-clause-written : goal.returns-in-Ok-flatten-clause-written
returns-in-Ok-flatten-clause-written g c = λ one two p q good bad ep eq. c.run_sides.ensures.written one two p q good bad (c.in-Ok.ensures ∙ ep) (c.in-Ok-flatten.ensures ∙ eq)
