-- The value is what was returned, as the function's type has it.
use Rattle.std.proofs.Common.{◌≡◌, ◌++◌, ◌∙◌, codes, sym, ap}
use Rattle.std.specs.Prelude.{option_map}
use Rattle.qil_streams.proofs.TextLemmas.{HasPut-as}
use Rattle.qil_compare.specs.Seen.{Value, seen}
use Rattle.qil_compare.specs.Next.{returns_of}
use Rattle.qil_comparison.specs.Told.{value_text, returned_text}
use Rattle.qil_comparison.proofs.event_text.put_returned.Goals as goal

pub returns-in-Some : goal.returns-in-Some
returns-in-Some g c =
    HasPut-as (ap (λ (v : Value). codes " " ++ (value_text v ++ codes "\n")) (c.seen_in.ensures ∙ ap (λ t. seen (g.M.Readers.whole c.args.machine.now).program t c.in-Some.value) c.returns_in.ensures)
    ∙ ap (λ o. returned_text (option_map (seen (g.M.Readers.whole c.args.machine.now).program (returns_of (g.M.Readers.whole c.args.machine.now).program c.args.func)) o)) (sym c.in-Some.is)) c.put_last_seen.ensures
