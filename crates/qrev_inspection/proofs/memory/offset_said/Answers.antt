-- Answers to the goals of `offset_said`.
use Rattle.std.proofs.Common.{◌≡◌, Some, ap, sym, refl, inl, ◌∙◌}
use Rattle.std.specs.Prelude.{codes, option_map}
use Rattle.json.specs.Value.{value_view}
use Rattle.qrev_requests.specs.Members.{json_of, member_in}
use Rattle.qrev_inspection.proofs.Reading.{offset_found}
use Rattle.qrev_inspection.proofs.memory.offset_said.Goals as goal

pub returns-in-Some : goal.returns-in-Some
returns-in-Some g c =
    let there : option_map (λ value. value_view value.now) c.get.result ≡ member_in (codes "offset") (json_of c.args.asked) = c.get.ensures in
    let some : option_map (λ value. value_view value.now) c.get.result ≡ Some (value_view c.in-Some.field-0.now) = ap (λ o. option_map (λ value. value_view value.now) o) c.in-Some.is in
    offset_found (json_of c.args.asked) c.signed.result (λ none. (let both = sym some ∙ there ∙ none in cc)) c.signed.ensures

pub returns-in-None : goal.returns-in-None
returns-in-None g c = inl (sym c.get.ensures ∙ ap (λ o. option_map (λ value. value_view value.now) o) c.in-None.is, refl)
