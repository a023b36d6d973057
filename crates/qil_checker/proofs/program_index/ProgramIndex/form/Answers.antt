-- The first place of a text is the first of the program where no earlier text has one.
use Rattle.std.proofs.Common.{◌≡◌, ◌∙◌, sym, ap, subst, List, ℕ, length, slice_get, Some, arith}
use Rattle.qil_rules.specs.Rules.{HasName}
use Rattle.qil_checker.specs.Whole.{occurrences_of}
use Rattle.qil_checker.specs.declared.definition.IndexedDefinition.{IndexedDefinition}
use Rattle.qil_checker.proofs.Texts.Places.{read_there}
use Rattle.qil_checker.proofs.Programs.Firsts.{text_there, length_texts, name_there, again_here, single_more, again_text}
use Rattle.qil_checker.proofs.program_index.ProgramIndex.form.Goals as goal

pub returns-in-Some : goal.returns-in-Some
returns-in-Some g c =
    let texts = c.args.self.now.texts.items in
    let i = c.loop-text.text-index in
    let t = c.text-item.result in
    let there = subst (λ (ts : List (IndexedDefinition g.row.A.Denot)). slice_get ts i ≡ Some t) c.as_slice-text-items.ensures.value (read_there c.as_slice-text-items.result.now i t (omega arith) c.text-item.is) in
    let name = subst (λ (x : List ℕ). HasName (occurrences_of texts) i x) (sym (c.new-func.ensures ∙ c.bytes.ensures)) (name_there texts i t there) in
    again_here (occurrences_of texts) i t.occurrences.items c.new-func.result c.in-Some.temp (text_there texts i t there) c.loop-text.invariant c.in-Some.ensures name

pub loop-text-preserved : goal.loop-text-preserved
loop-text-preserved g c =
    let texts = c.args.self.now.texts.items in
    let i = c.loop-text.text-index in
    let t = c.text-item.result in
    let there = subst (λ (ts : List (IndexedDefinition g.row.A.Denot)). slice_get ts i ≡ Some t) c.as_slice-text-items.ensures.value (read_there c.as_slice-text-items.result.now i t (omega arith) c.text-item.is) in
    single_more (occurrences_of texts) i t.occurrences.items (text_there texts i t there) c.loop-text.invariant c.in_default.ensures

pub returns : goal.returns
returns g c = λ p x h.
    let texts = c.args.self.now.texts.items in
    let l = again_text (occurrences_of texts) p x h in
    let e = length_texts texts in
    let same : length c.as_slice-text-items.result.now ≡ length texts = ap length c.as_slice-text-items.ensures.value in
    c.loop-text.invariant p x (omega (arith, l, e, same)) h
