-- A definition that is not at its temporary's first place comes after another.
use Rattle.std.proofs.Common.{◌≡◌, ◌≢◌, ◌∙◌, sym, subst, arith}
use Rattle.qil_rules.specs.Text.{IsAgain}
use Rattle.qil_checker.proofs.Texts.Places.{is_again, is_first, never_defined}
use Rattle.qil_checker.proofs.definition.IndexedDefinition.defined_again.Goals as goal

pub returns-then-first-place : goal.returns-then-first-place
returns-then-first-place g c =
    let s = c.args.self.now in
    let apart : c.in-Some.first ≢ c.args.place = λ e. absurd (omega arith) in
    subst (λ x. IsAgain s.occurrences.items c.args.place x) (sym (c.new.ensures ∙ c.bytes.ensures))
    (is_again s.occurrences.items c.in-Defines.name c.in-Defines.field-1 c.args.place c.in-Some.first c.args.occurrence.now c.requires c.in-Defines.is
    (sym (c.in-Some.ensures ∙ s.defined_places c.in-Defines.name)) apart)

pub returns-else-first-place : goal.returns-else-first-place
returns-else-first-place g c =
    let s = c.args.self.now in
    let same : c.in-Some.first ≡ c.args.place = omega arith in
    is_first s.occurrences.items c.in-Defines.name c.in-Defines.field-1 c.args.place c.in-Some.first c.args.occurrence.now c.requires c.in-Defines.is
    (sym (c.in-Some.ensures ∙ s.defined_places c.in-Defines.name)) same

pub returns-in-None : goal.returns-in-None
returns-in-None g c =
    let s = c.args.self.now in
    absurd (never_defined s.occurrences.items c.in-Defines.name c.in-Defines.field-1 c.args.place c.args.occurrence.now c.requires c.in-Defines.is
    (sym (c.in-None.ensures ∙ s.defined_places c.in-Defines.name)))
