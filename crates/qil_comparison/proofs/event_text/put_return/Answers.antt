-- The name, and the value if there is one.
use Rattle.std.proofs.Common.{◌∷◌, [], ◌++◌, ◌∙◌, codes, decimal, ap, sym, List, ℕ}
use Rattle.qil_comparison.specs.Told.{place_text, value_text, further_value, values_text, returned_text, event_line, found_line, way_line, side_text, verdict_line, sides_text}
use Rattle.std.specs.Prelude.{option_map}
use Rattle.qil_fragments.specs.Texts.{text_of}
use Rattle.qil_compare.specs.Seen.{seen}
use Rattle.qil_compare.specs.Next.{returns_of}
use Rattle.qil_streams.proofs.TextLemmas.{HasPut-as, HasPut-append, HasPut-stop}
use Rattle.qil_comparison.proofs.event_text.put_return.Goals as goal

pub returns-in_err-put_fragments : goal.returns-in_err-put_fragments
returns-in_err-put_fragments g c =
    HasPut-as (ap (λ (name : List ℕ). text_of (codes "return $" ∷ name ∷ []) ++ returned_text (option_map (seen (g.M.Readers.whole c.args.machine.now).program (returns_of (g.M.Readers.whole c.args.machine.now).program c.args.func)) c.args.value)) c.func_name_in.ensures)
    (HasPut-stop _ _ c.from_residual.ensures.1 _ _ _ (text_of (codes "return $" ∷ c.func_name_in.result.now ∷ [])) (returned_text (option_map (seen (g.M.Readers.whole c.args.machine.now).program (returns_of (g.M.Readers.whole c.args.machine.now).program c.args.func)) c.args.value)) c.in_err-put_fragments.ensures)

pub returns : goal.returns
returns g c =
    HasPut-as (ap (λ (name : List ℕ). text_of (codes "return $" ∷ name ∷ []) ++ returned_text (option_map (seen (g.M.Readers.whole c.args.machine.now).program (returns_of (g.M.Readers.whole c.args.machine.now).program c.args.func)) c.args.value)) c.func_name_in.ensures)
    (HasPut-append _ _ _ _ _ (text_of (codes "return $" ∷ c.func_name_in.result.now ∷ [])) (returned_text (option_map (seen (g.M.Readers.whole c.args.machine.now).program (returns_of (g.M.Readers.whole c.args.machine.now).program c.args.func)) c.args.value)) c.in_ok-put_fragments.ensures
    (c.put_returned.ensures))
