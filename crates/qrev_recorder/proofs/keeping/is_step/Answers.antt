-- The number that was read again is the number that was asked for.
use Rattle.std.proofs.Common.{◌≡◌, sym, ap, ◌∙◌, Ok, Some}
use Rattle.std.proofs.lemmas.Bool.Decides.{Decides-eqb}
use Rattle.qil_commands.specs.declared.command.Command.TheVariants as commands
use Rattle.qrev_recorder.proofs.keeping.is_step.Goals as goal

pub returns-in-Ok-Some-Step-clause-step : goal.returns-in-Ok-Some-Step-clause-step
returns-in-Ok-Some-Step-clause-step c t =
    let read = c.in-Ok-Some-Step in
    let same : read.count ≡ c.args.moves = sym c.from.ensures ∙ (Decides-eqb c.from.result c.args.moves).0 t in
    sym c.read_command.ensures ∙ read.is ∙ ap Ok (read.field-0-is ∙ ap Some (read.field-0-0-is ∙ ap commands.Step same))
