-- One function more is noted, and then those that every program has.
use Rattle.std.proofs.Common.{arith, refl, ap, ◌∙◌}
use Rattle.qil_shadow.specs.Table.{with_fixed}
use Rattle.qil_shadow.proofs.StartObjects.{named_function, fixed_more, same_starts, all_functions}
use Rattle.qil_shadow.proofs.start.note_functions.Goals as goal

pub loop-index-init : goal.loop-index-init
loop-index-init g c = record { fixed = c.requires.first; starts = refl; named = λ p same. refl }

pub loop-index-preserved : goal.loop-index-preserved
loop-index-preserved g c = record {
  fixed = fixed_more c.loop-index.objects _ _ c.in_ok-add_fixed.ensures c.loop-index.invariant.fixed;
  starts = same_starts c.loop-index.objects _ _ c.in_ok-add_fixed.ensures ∙ c.loop-index.invariant.starts;
  named = λ p same.
      named_function p c.loop-index.index _ _ c.args.objects.now c.loop-index.objects _ (omega (arith, c.loop-index-test.true, same)) refl refl
      (c.in_ok-add_fixed.ensures ∙ (λ i. with_fixed c.loop-index.objects (c.fixed.ensures i))) (c.loop-index.invariant.named p same);
}

pub returns-clause-objects : goal.returns-clause-objects
returns-clause-objects g c = λ p same.
    all_functions p c.loop-index.index c.args.objects.now c.loop-index.objects c.note_built_ins.new.objects (omega (arith, c.loop-index-test.false, same)) (c.in_ok-note_built_ins.ensures.objects p) (c.loop-index.invariant.named p same)

pub returns-clause-starts : goal.returns-clause-starts
returns-clause-starts g c = c.in_ok-note_built_ins.ensures.starts ∙ c.loop-index.invariant.starts
