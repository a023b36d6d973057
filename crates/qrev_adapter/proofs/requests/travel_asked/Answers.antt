-- Answers to the goals of `travel_asked`.
use Rattle.std.proofs.Common.{◌∙◌}
use Rattle.std.specs.Prelude.{◌&&◌, not}
use Rattle.qrev_adapter.specs.Asked.{travel_of}
use Rattle.qrev_adapter.proofs.requests.travel_asked.Goals as goal

pub returns : goal.returns
returns g c =
    c.travel_of.ensures
    ∙ (λ i. travel_of ((c.goes_by_lines-has_lines.ensures ∙ (λ j. c.is_some-has_map.ensures j && not (c.asks_single-is_single.ensures j))) i) c.args.command.now (c.asks_single-is_single.ensures i) (c.depth.ensures i))
