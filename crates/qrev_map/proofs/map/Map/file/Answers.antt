-- The mappings of a source, gathered line by line.
use Rattle.std.proofs.Common.{sym, subst, ap, ◌∙◌}
use Rattle.std.specs.Prelude.{IfOk}
use Rattle.std.specs.Str.{bytes_eq}
use Rattle.std.specs.List.Sorted.{IsPermutation}
use Rattle.qrev_map.proofs.Gathered.{gathered_nothing, gathered_none, gathered_other, gathered_more, gathered_all}
use Rattle.qrev_map.proofs.map.Map.file.Goals.{in-Some+then-eq+in_ok-push, in-Some+else-eq, in_default}
use Rattle.qrev_map.proofs.map.Map.file.Goals as goal

pub loop-index-init : goal.loop-index-init
loop-index-init g c = rw c.new-mappings.ensures.items (gathered_nothing c.args.self.now.text.items c.args.path.now c.args.self.now.spans.items)

pub loop-index-preserved : goal.loop-index-preserved
loop-index-preserved g c = elim c.match-spans-index.branch [
  | in-Some+then-eq+in_ok-push w ↦ rw w.mappings-is (gathered_more c.args.self.now.text.items c.args.path.now c.args.self.now.spans.items c.loop-index.index c.loop-index.mappings.items w.push.new.self.items w.in-Some.span c.loop-index.invariant (rw c.as_slice-spans.ensures.value at c.loop-index-test.true) (rw c.as_slice-spans.ensures.value at w.in-Some.is) (ap (λ p. bytes_eq p c.args.path.now) (sym w.path.ensures) ∙ sym w.eq.ensures ∙ w.if-eq.true) w.in_ok-push.ensures.items)
  | in-Some+else-eq w ↦ rw w.mappings-is (gathered_other c.args.self.now.text.items c.args.path.now c.args.self.now.spans.items c.loop-index.index c.loop-index.mappings.items w.in-Some.span c.loop-index.invariant (rw c.as_slice-spans.ensures.value at c.loop-index-test.true) (rw c.as_slice-spans.ensures.value at w.in-Some.is) (ap (λ p. bytes_eq p c.args.path.now) (sym w.path.ensures) ∙ sym w.eq.ensures ∙ w.if-eq.false))
  | in_default w ↦ rw w.mappings-is (gathered_none c.args.self.now.text.items c.args.path.now c.args.self.now.spans.items c.loop-index.index c.loop-index.mappings.items c.loop-index.invariant (rw c.as_slice-spans.ensures.value at c.loop-index-test.true) (rw c.as_slice-spans.ensures.value at w.in_default.is))
]

pub returns-clause-same : goal.returns-clause-same
returns-clause-same g c =
    subst (λ v. IfOk c.new.result (λ file. IsPermutation v file.mappings.items)) (sym (gathered_all c.args.self.now.text.items c.args.path.now c.args.self.now.spans.items c.loop-index.index c.loop-index.mappings.items c.loop-index.invariant (rw c.as_slice-spans.ensures.value at c.loop-index-test.false))) c.new.ensures.same
