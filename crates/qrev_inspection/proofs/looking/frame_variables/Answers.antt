-- Answers to the goals of `frame_variables`.
use Rattle.std.proofs.Common.{refl, ◌-◌}
use Rattle.qrev_inspection.specs.Shown.{variables_member}
use Rattle.qrev_inspection.proofs.looking.frame_variables.Goals as goal

pub returns-in_ok-temp_variables-in-Some-clause-shown : goal.returns-in_ok-temp_variables-in-Some-clause-shown
returns-in_ok-temp_variables-in-Some-clause-shown g c =
    let shown = c.in_ok-temp_variables-in-Some.ensures (c.args.number - 1) c.in-Some.ensures in (
      variables_member shown.0,
      record { frame = c.in-Some.frame; items = shown.0; is_there = c.in-Some.ensures; temporaries = shown.1; is_listed = refl },
      shown.2,
    )
