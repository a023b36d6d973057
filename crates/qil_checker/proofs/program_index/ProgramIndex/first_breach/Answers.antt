-- The first occurrence of a text that breaks the rule.
use Rattle.std.proofs.lemmas.Grind.{common_steps, elements}
use borrow.Author.Differences.{ints}
use Rattle.std.proofs.Common.{◌≡◌, ap, subst, List, Some, slice_get, ◌<◌, IsTrue, length, arith, below_more}
use Rattle.qil_rules.specs.declared.occurrence.Occurrence.{Occurrence}
use Rattle.qil_rules.specs.Rules.{Breaks}
use Rattle.qil_checker.specs.Whole.{occurrences_of}
use Rattle.qil_checker.proofs.Texts.Places.{read_there}
use Rattle.qil_checker.proofs.Programs.Scans.{breaks_within}
use Rattle.qil_checker.proofs.program_index.ProgramIndex.first_breach.Goals as goal

pub breaks-requires-clause-at_hand : goal.breaks-requires-clause-at_hand
breaks-requires-clause-at_hand g c = c.loop-place.invariant.1

pub predecessors_for-predecessors-requires-clause-there : goal.predecessors_for-predecessors-requires-clause-there
predecessors_for-predecessors-requires-clause-there g c =
    subst (λ (t : List Occurrence). slice_get t c.loop-place.place ≡ Some c.occurrence-item.result) c.deref-occurrence-items.ensures.value
    (read_there c.deref-occurrence-items.result.now c.loop-place.place c.occurrence-item.result (omega arith) c.occurrence-item.is)

pub predecessors_for-predecessors-requires-clause-at_hand : goal.predecessors_for-predecessors-requires-clause-at_hand
predecessors_for-predecessors-requires-clause-at_hand g c = c.loop-place.invariant.1

pub loop-place-preserved : goal.loop-place-preserved
loop-place-preserved g c = (
  λ j l b.
      let all = occurrences_of c.args.self.now.texts.items in
      let text = c.args.visit.now.text.now.occurrences.items in
      below_more (λ k. Breaks c.args.rule all text c.args.visit.now.number k → ⊥) c.loop-place.place (λ k h. c.loop-place.invariant.0 k h)
      (λ h. let yes : IsTrue c.in_ok-breaks.field-0 = c.in_ok-breaks.ensures.1 h in absurd (grind arith)) j l b,
  c.predecessors_for-predecessors.ensures,
)

pub returns : goal.returns
returns g c = λ k b.
    let text = c.args.visit.now.text.now.occurrences.items in
    let l : k < length text = breaks_within c.args.rule (occurrences_of c.args.self.now.texts.items) text c.args.visit.now.number k b in
    let e : length c.deref-occurrence-items.result.now ≡ length text = ap length c.deref-occurrence-items.ensures.value in
    c.loop-place.invariant.0 k (omega arith) b

pub loop-place-init : goal.loop-place-init
loop-place-init c = grind (ints, arith, common_steps)

pub offset_bounds-occurrence-items-place : goal.offset_bounds-occurrence-items-place
offset_bounds-occurrence-items-place c = grind (ints, arith, common_steps)

pub bounds-occurrence-items-place : goal.bounds-occurrence-items-place
bounds-occurrence-items-place c = grind (ints, arith, common_steps)

pub breaks-requires-clause-there : goal.breaks-requires-clause-there
breaks-requires-clause-there c = grind (ints, arith, elements)

pub breaks-requires-clause-counted : goal.breaks-requires-clause-counted
breaks-requires-clause-counted c = grind (ints, arith, common_steps)

pub returns-in_err-breaks : goal.returns-in_err-breaks
returns-in_err-breaks c = grind (ints, arith, common_steps)

pub returns-then-branch : goal.returns-then-branch
returns-then-branch c = grind (ints, arith, elements)

pub loop-place-smaller : goal.loop-place-smaller
loop-place-smaller c = grind (ints, arith, common_steps)
