-- The occurrence at a temporary's first place is its first definition.
use Rattle.std.proofs.Common.{◌∙◌, sym, arith}
use Rattle.std.proofs.lemmas.Grind.{common_steps}
use Rattle.qil_checker.proofs.Texts.Places.{class_absent, class_at, no_class_at, place_within, read_there}
use Rattle.qil_checker.proofs.definition.IndexedDefinition.class_of.Goals as goal

pub index-requires : goal.index-requires
index-requires g c =
    let l = place_within c.args.self.now.occurrences.items c.args.name.now c.in-Some.place (sym (c.in-Some.ensures ∙ c.args.self.now.defined_places c.args.name.now)) in
    grind (arith, common_steps, l)

pub returns-in-Defines : goal.returns-in-Defines
returns-in-Defines g c =
    let e = sym (c.in-Some.ensures ∙ c.args.self.now.defined_places c.args.name.now) in
    class_at c.args.self.now.occurrences.items c.args.name.now c.in-Defines.field-0 c.in-Some.place c.index.result.now c.in-Defines.class e
    (read_there c.args.self.now.occurrences.items _ _ (place_within c.args.self.now.occurrences.items c.args.name.now c.in-Some.place e) c.index.ensures) c.in-Defines.is

pub returns-in_default : goal.returns-in_default
returns-in_default g c =
    let e = sym (c.in-Some.ensures ∙ c.args.self.now.defined_places c.args.name.now) in
    absurd (no_class_at c.args.self.now.occurrences.items c.args.name.now c.in-Some.place c.index.result.now e
    (read_there c.args.self.now.occurrences.items _ _ (place_within c.args.self.now.occurrences.items c.args.name.now c.in-Some.place e) c.index.ensures) (λ y d is. c.in_default.not-Defines y d is))

pub returns-in-None : goal.returns-in-None
returns-in-None g c = class_absent c.args.self.now.occurrences.items c.args.name.now (sym (c.in-None.ensures ∙ c.args.self.now.defined_places c.args.name.now))
