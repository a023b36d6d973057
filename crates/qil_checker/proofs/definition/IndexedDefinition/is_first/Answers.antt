-- The first label is one.
use Rattle.std.proofs.Common.{◌∙◌, sym}
use Rattle.qil_checker.proofs.Texts.Homes.{begun_test, begun_nowhere}
use Rattle.qil_checker.proofs.definition.IndexedDefinition.is_first.Goals as goal

pub returns-in-Some : goal.returns-in-Some
returns-in-Some g c =
    let s = c.args.self.now in
    begun_test s.occurrences.items c.args.label.now c.in-Some.first c.bytes.result.now c.bytes-in-Some.result.now c.eq.result c.eq.ensures c.bytes.ensures c.bytes-in-Some.ensures (sym s.first_is ∙ c.in-Some.is)

pub returns-in-None : goal.returns-in-None
returns-in-None g c =
    let s = c.args.self.now in
    (λ t. absurd cc, λ f. absurd (begun_nowhere s.occurrences.items (sym s.first_is ∙ c.in-None.is) c.args.label.now f))
