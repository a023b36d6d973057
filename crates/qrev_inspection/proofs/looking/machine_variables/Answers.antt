-- Answers to the goals of `machine_variables`.
use Rattle.std.proofs.Common.{append_assoc, ◌++◌}
use Rattle.std.specs.Prelude.{flat_map}
use Rattle.qrev_views.specs.Pages.{page_of}
use Rattle.qrev_views.specs.Variables.{fixed_tokens, machine_rows}
use Rattle.qrev_inspection.specs.Shown.{variables_member}
use Rattle.qrev_inspection.proofs.looking.machine_variables.Goals as goal

pub returns : goal.returns
returns g c =
    rw (c.in_ok-body.ensures, c.in_ok-list-2.ensures, c.in_ok-list.ensures, append_assoc, append_assoc)
    (λ i. c.args.body.out.tokens ++ variables_member (flat_map fixed_tokens (page_of c.args.page (machine_rows (c.position-now.ensures i) (c.oldest-first.ensures i) (c.machine-machine.ensures.now i)))))
