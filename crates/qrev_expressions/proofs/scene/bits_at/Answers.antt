-- Answers to the goals of `bits_at`.
use Rattle.std.proofs.Common.{◌≡◌, ◌∙◌, refl, ℕ, Result, Ok, Err}
use Rattle.qil_memory.specs.Calls.{loaded}
use Rattle.qil_memory.specs.Live.{live}
use Rattle.qrev_views.specs.Variables.{value_of}
use Rattle.qrev_expressions.specs.Readings.{number_read}
use Rattle.qrev_expressions.proofs.scene.bits_at.Goals as goal

same_number : {E : Type 0} (r : Result ℕ E) → value_of r ≡ number_read r
same_number (Ok v) = refl
same_number (Err e) = refl

pub returns : goal.returns
returns g c = c.value_at.ensures ∙ same_number (loaded (live (g.M.Readers.whole c.args.machine.now).memory) c.args.address c.args.width)
