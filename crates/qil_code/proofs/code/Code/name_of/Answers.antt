-- The name of the temporary of a slot.
use Rattle.std.proofs.Common.{◌∙◌, ap, sym, Some}
use Rattle.std.specs.Prelude.{slice_get, option_map}
use Rattle.std.proofs.lemmas.Option.{slice_get-map}
use Rattle.qil_code.proofs.Readers.{coded, uncoded, temps-there, no-names}
use Rattle.qil_code.proofs.code.Code.name_of.Goals as goal

pub returns-in-Some-item_at : goal.returns-in-Some-item_at
returns-in-Some-item_at g c =
    ap (λ x. Some x) c.new.ensures
    ∙ ap (λ o. option_map (λ key. key.now) o) c.in-Some-item_at.ensures
    ∙ sym (slice_get-map (λ key. key.now) c.names.result.now c.args.slot.index)
    ∙ ap (λ ns. slice_get ns c.args.slot.index) (c.names.ensures ∙ temps-there c.args.self.now c.args.func.index c.in-Some.found.now (coded _ _ _ c.in-Some.ensures.code))

pub returns-in-None-item_at : goal.returns-in-None-item_at
returns-in-None-item_at g c =
    ap (λ o. option_map (λ key. key.now) o) c.in-None-item_at.ensures
    ∙ sym (slice_get-map (λ key. key.now) c.names.result.now c.args.slot.index)
    ∙ ap (λ ns. slice_get ns c.args.slot.index) (c.names.ensures ∙ temps-there c.args.self.now c.args.func.index c.in-Some.found.now (coded _ _ _ c.in-Some.ensures.code))

pub returns-in-None : goal.returns-in-None
returns-in-None g c = ap (λ ns. slice_get ns c.args.slot.index) (sym (no-names c.args.self.now c.args.func.index (uncoded c.args.self.now c.args.func.index c.in-None.ensures.code)))
