-- The name, and the values of the parameters.
use Rattle.std.proofs.Common.{◌∷◌, [], ◌++◌, ◌∙◌, codes, decimal, ap, sym, List, ℕ}
use Rattle.qil_comparison.specs.Told.{place_text, value_text, further_value, values_text, returned_text, event_line, found_line, way_line, side_text, verdict_line, sides_text}
use Rattle.qil_fragments.specs.Texts.{text_of}
use Rattle.qil_state.specs.State.{state_of}
use Rattle.qil_compare.specs.Events.{call_params}
use Rattle.qil_streams.proofs.TextLemmas.{HasPut-as, HasPut-append, HasPut-stop}
use Rattle.qil_comparison.proofs.event_text.put_call.Goals as goal

pub returns-in_err-put_fragments : goal.returns-in_err-put_fragments
returns-in_err-put_fragments g c =
    HasPut-as (ap (λ (name : List ℕ). text_of (codes "call $" ∷ name ∷ codes "(" ∷ []) ++ (values_text (call_params (g.M.Readers.whole c.args.machine.now).program (state_of (g.M.Readers.whole c.args.machine.now)).frames) ++ codes ")\n")) c.call_name.ensures)
    (HasPut-stop _ _ c.from_residual.ensures.1 _ _ _ (text_of (codes "call $" ∷ c.call_name.result.now ∷ codes "(" ∷ [])) ((values_text (call_params (g.M.Readers.whole c.args.machine.now).program (state_of (g.M.Readers.whole c.args.machine.now)).frames)) ++ (codes ")\n")) c.in_err-put_fragments.ensures)

pub returns-in_err-put_params : goal.returns-in_err-put_params
returns-in_err-put_params g c =
    HasPut-as (ap (λ (name : List ℕ). text_of (codes "call $" ∷ name ∷ codes "(" ∷ []) ++ (values_text (call_params (g.M.Readers.whole c.args.machine.now).program (state_of (g.M.Readers.whole c.args.machine.now)).frames) ++ codes ")\n")) c.call_name.ensures)
    (HasPut-append _ _ _ _ _ (text_of (codes "call $" ∷ c.call_name.result.now ∷ codes "(" ∷ [])) ((values_text (call_params (g.M.Readers.whole c.args.machine.now).program (state_of (g.M.Readers.whole c.args.machine.now)).frames)) ++ (codes ")\n")) c.in_ok-put_fragments.ensures
    (HasPut-stop _ _ c.from_residual-in_err-put_params.ensures.1 _ _ _ (values_text (call_params (g.M.Readers.whole c.args.machine.now).program (state_of (g.M.Readers.whole c.args.machine.now)).frames)) (codes ")\n") c.in_err-put_params.ensures))

pub returns : goal.returns
returns g c =
    HasPut-as (ap (λ (name : List ℕ). text_of (codes "call $" ∷ name ∷ codes "(" ∷ []) ++ (values_text (call_params (g.M.Readers.whole c.args.machine.now).program (state_of (g.M.Readers.whole c.args.machine.now)).frames) ++ codes ")\n")) c.call_name.ensures)
    (HasPut-append _ _ _ _ _ (text_of (codes "call $" ∷ c.call_name.result.now ∷ codes "(" ∷ [])) ((values_text (call_params (g.M.Readers.whole c.args.machine.now).program (state_of (g.M.Readers.whole c.args.machine.now)).frames)) ++ (codes ")\n")) c.in_ok-put_fragments.ensures
    (HasPut-append _ _ _ _ _ (values_text (call_params (g.M.Readers.whole c.args.machine.now).program (state_of (g.M.Readers.whole c.args.machine.now)).frames)) (codes ")\n") c.in_ok-put_params.ensures
    (c.put.ensures)))
