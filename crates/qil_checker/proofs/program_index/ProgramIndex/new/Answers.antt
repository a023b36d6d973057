-- The table is that of the texts.
use Rattle.std.proofs.Common.{◌∙◌, ap}
use Rattle.qil_checker.specs.Tables.{first, has_name}
use Rattle.qil_checker.specs.Whole.{occurrences_of}
use Rattle.qil_checker.proofs.program_index.ProgramIndex.new.Goals as goal

pub invariant_of-result : goal.invariant_of-result
invariant_of-result g c = record { first_names = λ x. c.in_ok-names.ensures x ∙ ap (λ ts. first (has_name x) 0 (occurrences_of ts)) c.as_slice.ensures.value }

pub returns : goal.returns
returns g c = c.in_ok-texts.ensures
