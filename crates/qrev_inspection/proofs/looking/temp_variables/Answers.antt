-- Answers to the goals of `temp_variables`.
use Rattle.std.proofs.Common.{append_assoc, refl}
use Rattle.qrev_inspection.proofs.looking.temp_variables.Goals as goal

pub returns : goal.returns
returns g c = λ k there.
    let shown = c.in_ok-list-2.ensures k there in
    (shown.0, shown.1, rw (c.in_ok-body.ensures, shown.2, c.in_ok-list.ensures, append_assoc, append_assoc) refl)
