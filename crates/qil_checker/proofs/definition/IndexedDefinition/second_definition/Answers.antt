-- The first definition that is not the first of its temporary.
use Rattle.std.proofs.Common.{List, ℕ, ◌<◌, length, arith, below_more}
use Rattle.qil_rules.specs.Text.{IsAgain}
use Rattle.qil_checker.proofs.Texts.Places.{again_within}
use Rattle.qil_checker.proofs.definition.IndexedDefinition.second_definition.Goals as goal

pub returns-in-Some : goal.returns-in-Some
returns-in-Some g c = record {
  occurrence = c.loop-place.place;
  again = c.in-Some.ensures;
  first = c.loop-place.invariant;
}

pub loop-place-preserved : goal.loop-place-preserved
loop-place-preserved g c = λ j x l.
    below_more (λ k. (y : List ℕ) → IsAgain c.args.self.now.occurrences.items k y → ⊥) c.loop-place.place (λ k h y. c.loop-place.invariant k y h)
    (λ y b. c.in_default.ensures y b) j l x

pub returns : goal.returns
returns g c = λ k x a.
    let l : k < length c.args.self.now.occurrences.items = again_within c.args.self.now.occurrences.items k x a in
    c.loop-place.invariant k x (omega arith) a
