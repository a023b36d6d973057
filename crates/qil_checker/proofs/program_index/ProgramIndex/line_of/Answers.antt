-- The first place of a text is the first of the program where no earlier text has one.
use Rattle.std.proofs.Common.{◌≡◌, ap, subst, List, ℕ, length, slice_get, Some, Option, MatchOption, arith}
use Rattle.qil_checker.specs.declared.definition.IndexedDefinition.{IndexedDefinition}
use Rattle.qil_checker.specs.Scan.{Keeps, Breach}
use Rattle.qil_checker.specs.Whole.{occurrences_of}
use Rattle.qil_checker.proofs.Texts.Places.{read_there}
use Rattle.qil_checker.proofs.Programs.Firsts.{text_there, length_texts, breach_here, kept_more, at_text, counted, few_functions, at_most_one}
use Rattle.qil_checker.proofs.program_index.ProgramIndex.line_of.Goals as goal

pub returns-in-Some : goal.returns-in-Some
returns-in-Some g c =
    let texts = c.args.self.now.texts.items in
    let i = c.loop-number.number in
    let t = c.text-item.result in
    let there = subst (λ (ts : List (IndexedDefinition g.row.A.Denot)). slice_get ts i ≡ Some t) c.deref-text-items.ensures.value (read_there c.deref-text-items.result.now i t (omega arith) c.text-item.is) in
    let found = subst (λ (o : Option ℕ). MatchOption o (Keeps c.args.rule (occurrences_of texts) t.occurrences.items i) (Breach c.args.rule (occurrences_of texts) t.occurrences.items i)) c.in-Some.is c.in_ok-line.ensures in
    breach_here (occurrences_of texts) c.args.rule i t.occurrences.items c.in-Some.line (text_there texts i t there) c.loop-number.invariant.0 found

pub loop-number-preserved : goal.loop-number-preserved
loop-number-preserved g c =
    let texts = c.args.self.now.texts.items in
    let i = c.loop-number.number in
    let t = c.text-item.result in
    let there = subst (λ (ts : List (IndexedDefinition g.row.A.Denot)). slice_get ts i ≡ Some t) c.deref-text-items.ensures.value (read_there c.deref-text-items.result.now i t (omega arith) c.text-item.is) in
    let kept = subst (λ (o : Option ℕ). MatchOption o (Keeps c.args.rule (occurrences_of texts) t.occurrences.items i) (Breach c.args.rule (occurrences_of texts) t.occurrences.items i)) c.in_default.is c.in_ok-line.ensures in (
      kept_more (occurrences_of texts) c.args.rule i t.occurrences.items (text_there texts i t there) c.loop-number.invariant.0 kept,
      counted (occurrences_of texts) i c.loop-number.functions c.functions-functions.result t.occurrences.items (text_there texts i t there) c.loop-number.invariant.1 c.functions-functions.ensures,
    )

pub returns : goal.returns
returns g c = λ p h.
    let texts = c.args.self.now.texts.items in
    let l = at_text (occurrences_of texts) c.args.rule p h in
    let e = length_texts texts in
    let same : length c.deref-text-items.result.now ≡ length texts = ap length c.deref-text-items.ensures.value in
    c.loop-number.invariant.0 p (omega (arith, l, e, same)) h

pub overflow_add-functions : goal.overflow_add-functions
overflow_add-functions g c =
    let texts = c.args.self.now.texts.items in
    let i = c.loop-number.number in
    let e = length_texts texts in
    let same : length c.deref-text-items.result.now ≡ length texts = ap length c.deref-text-items.ensures.value in
    let few = few_functions (occurrences_of texts) i c.loop-number.functions (omega (arith, e, same)) c.loop-number.invariant.1 in
    let one = at_most_one _ c.functions-functions.result c.functions-functions.ensures in
    omega (arith, few, one)
