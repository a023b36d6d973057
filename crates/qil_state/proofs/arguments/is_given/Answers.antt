-- What is named for a result that isn't given.
use Rattle.std.proofs.Common.{sym, ap, ◌∙◌}
use Rattle.std.specs.Prelude.{option_map, Some}
use Rattle.qil_code.specs.Named.{named_receiver}
use Rattle.qil_semantics.specs.Calls.{gives}
use Rattle.qil_state.proofs.arguments.is_given.Goals as goal

pub returns-in-None-returns : goal.returns-in-None-returns
returns-in-None-returns c ns =
    sym (ap (λ to. gives (option_map (named_receiver ns) to) c.args.returns) c.in-Some.is ∙ ap (gives (Some (named_receiver ns c.in-Some.receiver))) c.in-None-returns.is)
